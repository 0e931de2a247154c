-- What check 34 leaves for check 35, and what the two answer.
use mathlib.Core.Path.{◌≡◌, ap, ◌∙◌, sym}
use mathlib.Core.List.{List}
use Rattle.std.specs.Prelude.{Err}
use Prim.Native.Nat.{ℕ, ◌≤◌}
use native.Mathlib.Omega.{arith}
use lib.ListN.{length}
use Rattle.paper.specs.Faults.{sound, lowest_of, stated, Answer, done}
use Rattle.paper.specs.declared.Refusal.{Refusal}
use Rattle.paper.specs.Turning.{fault34, fault35}
use Rattle.mesh.proofs.Faces.{start_all}
use Rattle.mesh.proofs.Verdicts.{lowest_sound, or_else_sound, stop, unsound}
use Rattle.partners.specs.Lists.{ListsPass}
use Rattle.partners.specs.Keys.{PartnersOver}
use Rattle.turning.specs.starts.Starts.{StartsTo}
use Rattle.turning.specs.visiting.Visit.{Spreadable}
use Rattle.turning.specs.spreading.Spread.{SpreadOver}
use Rattle.turning.specs.choosing.Choice.{Chosen}

-- check 34 stops the search, or 35 decides
pub chosen_refused : {sides corners : List ℕ} {r : Answer} {partners : List ℕ} (x : Refusal) (states : List ℕ) → PartnersOver sides corners r partners
    → r ≡ Err x → Chosen sides corners (Err x) states
chosen_refused {sides} {corners} {r = r} x states o e =
    record {
      answers = stop r o.answers x e (lowest_of 35 (length sides) (fault35 sides corners));
      turns = λ q. unsound x.number x.place q;
    }

module _ {sides corners : List ℕ} {a : Answer} {partners : List ℕ} (o : PartnersOver sides corners a partners) (e : a ≡ done) where
  passed : lowest_of 34 (length corners) (fault34 sides corners) ≡ sound
  passed = sym o.answers ∙ ap stated e

  pub chosen_spread : {r : Answer} {states : List ℕ} → SpreadOver sides corners r states → Chosen sides corners r states
  chosen_spread s =
      record {
        answers = s.answers ∙ sym (or_else_sound (lowest_of 35 (length sides) (fault35 sides corners)) passed);
        turns = λ q. s.turns (sym s.answers ∙ q);
      }

  pub spreadable_of : {vertices : ℕ} {faces starts : List ℕ} → ListsPass vertices sides corners → StartsTo sides faces starts (length sides)
      → length corners ≤ length partners → length corners ≤ length faces → length sides ≤ length starts
      → Spreadable sides corners partners faces starts
  spreadable_of z s lp lf ls =
      record {
        listed = z.listed;
        two = lowest_sound 34 (length corners) (fault34 sides corners) passed;
        few_faces = z.few_faces;
        few_corners = z.few_corners;
        partners_long = lp;
        partners_are = o.partners_are passed;
        faces_long = lf;
        faces_are = λ c l. s.faces_are c (omega (arith, start_all sides (length sides) (omega arith), z.listed.sums));
        starts_long = ls;
        starts_are = s.starts_are;
      }
