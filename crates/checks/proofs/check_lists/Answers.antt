-- Checks 4 to 9 with 27 and 28 meet their contract: those of the lists' own numbers stop the chain or are passed, and 9 ends it.
use mathlib.Core.Path.{◌≡◌, refl, ◌∙◌, sym}
use Rattle.paper.specs.Mesh.{of_lists}
use Rattle.paper.specs.Faults.{sound}
use Rattle.mesh.proofs.Verdicts.{past}
use Rattle.list_checks.specs.Entries.{entry_faults}
use Rattle.list_checks.proofs.Entries.{then_nine, listed}
use Rattle.list_checks.proofs.Laws.{handed, stops}
use Rattle.checks.proofs.Laws.{rows, lists_refused}
use Rattle.checks.proofs.check_lists.Goals as goal
use Rattle.checks.proofs.check_lists.Goals.{In_ok-check}

-- the lists' own numbers have passed
entries : (t : In_ok-check) → entry_faults (of_lists t.args.lists) ≡ sound
entries t = sym t.in_ok-check.ensures

pub returns-in_err-check : goal.returns-in_err-check
returns-in_err-check c =
    let M = of_lists c.args.lists in
    let b = c.from_residual in
    let r = c.in_err-check.field-0.0 in
    lists_refused M _ _ b.result r.number r.place (handed b.result r b.ensures.1 refl) (stops _ _ _ c.in_err-check.ensures ∙ then_nine M)

pub check_faces-requires : goal.check_faces-requires
check_faces-requires c =
    let M = of_lists c.args.lists in
    let g = listed M (entries (goal.at.check_faces-requires c).In_ok-check) in record {
      mesh = (g.sums, g.small, g.sided);
      room = (c.requires.corners_fit g.small, rows M g c.args.vertices.now (c.requires.vertices_fit g.few), c.requires.blank);
    }

pub returns : goal.returns
returns c =
    let M = of_lists c.args.lists in record {
      answers = past (entries (goal.at.returns c).In_ok-check) _ c.check_faces.ensures.answer ∙ then_nine M;
      ready = c.check_faces.ensures.chains;
      faced = c.check_faces.ensures.faces;
    }
