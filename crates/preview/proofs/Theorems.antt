-- What is said of building holds of previews: where the vertex is one, a preview is building on the moved lists.
use mathlib.Core.Path.{◌≡◌, ap, ◌∙◌, subst}
use mathlib.Core.Logic.{⊎_elim}
use native.Mathlib.Omega.{arith}
use lib.ListN.{length}
use Rattle.paper.specs.Faults.{Verdict, fault, kept}
use Rattle.paper.specs.Calls.{nets, build_verdict}
use Rattle.paper.specs.Preview.{moved, fault29, preview_verdict}
use Rattle.paper.specs.CFace.{number_of, States}
use Rattle.paper.specs.Claims.{AsBuilding, PreviewsBuild, PreviewsFromC}
use Rattle.mesh.proofs.Scans.{ways}
use Rattle.mesh.proofs.Verdicts.{or_else_fault, or_else_sound, single_hit, single_miss}
use Rattle.borders.proofs.FromC.{from_c}
use Rattle.preview.proofs.Laws.{preview_as, preview_done}

pub as_building : AsBuilding
as_building M m links first count old r out h p = preview_as M m links first count old h r out p

pub previews_build : PreviewsBuild
previews_build M m links first count old out p = preview_done M m links first count old out p

-- 29 is not 0, and past it the call is one of `mahunopi_build`
pub previews_from_c : PreviewsFromC
unfolding preview_verdict
previews_from_c M m links first count old before after out call =
    let v = preview_verdict M m links first count (length old) in
    let w = build_verdict (moved M m) links first count (length old) in
    ⊎_elim
    (λ t. let e : v ≡ fault 29 m.vertex = or_else_fault 29 m.vertex w (single_hit 29 m.vertex t) in
    absurd (omega (arith, call.answers.number ∙ ap number_of e)))
    (λ t. let e : v ≡ w = or_else_sound w (single_miss 29 m.vertex t) in
    from_c (moved M m) links first count old before after out
    (record {
      answers = subst (λ (u : Verdict). States u before 0 after) e call.answers;
      holds = call.holds ∙ ap (λ (u : Verdict). kept u (nets (moved M m) first count) old) e;
    }))
    (ways (fault29 M m.vertex))
