-- The steps of the call: what each check leaves for the next, and what the call answers and writes.
use mathlib.Core.Path.{◌≡◌, refl, ap, ◌∙◌, sym}
use mathlib.Core.Bool.{not}
use mathlib.Core.List.{List}
use Rattle.std.specs.Prelude.{Ok, Err}
use Prim.Native.Nat.{ℕ, ◌*◌, ◌<◌, ◌≤◌}
use native.Mathlib.Omega.{arith}
use lib.ListN.{length}
use borrow.Author.Tests.{eq-eqb, ne_eqb}
use Rattle.paper.specs.Mesh.{most_corners, Mesh, mesh_of, vertex_count, face_count, corner_count}
use Rattle.paper.specs.Faults.{sound, fault, ◌or_else◌, list_faults, stated, Answer, done}
use Rattle.paper.specs.declared.Refusal.{Refusal}
use Rattle.paper.specs.File.{begins}
use Rattle.paper.specs.Turning.{turned_pairs, faces_of, turns_of, fault36, turn_faults, turn_verdict, TurnedTo}
use Rattle.mesh.proofs.Verdicts.{sound_left, sound_right, single_sound, lowest_sound, stop, or_else_fault, or_else_sound, single_hit, single_miss, unsound}
use Rattle.mesh.proofs.Accepted.{few_vertices, few_faces, few_corners, named_of}
use Rattle.walk.specs.Table.{row_length}
use Rattle.checks.specs.columns.Filled.{FacesFilled}
use Rattle.reversing.specs.States.{turns_by}
use Rattle.turning.proofs.Theorem.{listed_of}
use Rattle.turning.proofs.Theorems.{long_of}
use Rattle.reversing.proofs.Models.{corners_same, pairs_same, faces_same}
use Rattle.reversing.specs.Written.{Written}
use Rattle.partners.specs.Lists.{ListsPass, Nexted}
use Rattle.turning.specs.choosing.Choice.{Chosen}
use Rattle.turning.specs.Chosen.{ChosenFor}

-- lists that pass 4 to 9
pub lists_pass : (M : Mesh) → list_faults M ≡ sound → ListsPass (vertex_count M) M.sides M.corners
unfolding list_faults
lists_pass M e =
    let e5 = sound_right _ _ (sound_right _ _ e) in
    let e6 = sound_right _ _ e5 in
    let e7 = sound_right _ _ e6 in
    let e8 = sound_right _ _ e7 in
    let four = single_sound _ _ _ (sound_left _ _ e) in
    record {
      listed = listed_of M e;
      few_vertices = few_vertices (length M.coordinates) (face_count M) (corner_count M) four;
      few_faces = few_faces (length M.coordinates) (face_count M) (corner_count M) four;
      few_corners = few_corners (length M.coordinates) (face_count M) (corner_count M) four;
      named = λ c l. named_of (vertex_count M) M.corners c (lowest_sound _ _ _ (sound_left _ _ e8) c l);
    }

-- the table of corners is long enough, and then has the next corners
pub nexted_of : {vertices : ℕ} {sides corners table : List ℕ} → ListsPass vertices sides corners → row_length * most_corners ≤ length table
    → FacesFilled sides table → Nexted sides corners table
nexted_of z l f = let s = z.listed.sums in let g = z.few_corners in record { long = omega arith; nexts = λ c h. f.nexts c (omega arith) }

-- 4 to 9 stop the search, or 34 and 35 decide
module _ (M : Mesh) {a : Answer} (v : stated a ≡ list_faults M) where
  pub lists_refused : (x : Refusal) (states : List ℕ) → a ≡ Err x → ChosenFor M (Err x) states
  lists_refused x states e = record { answers = stop a v x e (turn_faults M); turns = λ q. unsound x.number x.place q }

  pub lists_sound : a ≡ done → list_faults M ≡ sound
  lists_sound e = sym v ∙ ap stated e

  pub lists_passed : {b : Answer} {states : List ℕ} → a ≡ done → Chosen M.sides M.corners b states → ChosenFor M b states
  unfolding turn_faults
  lists_passed e c = record { answers = c.answers ∙ sym (or_else_sound (turn_faults M) (lists_sound e)); turns = c.turns }

-- the whole: refused, or done
module _ (M : Mesh) (old : List ℕ) where
  pub turned_refused : (x : Refusal) → turn_verdict M (length old) ≡ fault x.number x.place → TurnedTo M old (Err x) M old
  turned_refused x e = record { answers = sym e; counts = tt; holds = refl; listing_holds = refl }

  pub length_refused : (length old ≡ face_count M → ⊥) → turn_verdict M (length old) ≡ fault 36 (length old)
  unfolding turn_verdict fault36
  length_refused n =
      or_else_fault 36 (length old) (list_faults M or_else turn_faults M) (single_hit 36 (length old) (ap not (ne_eqb (length old) (face_count M) n)))

  module _ (q : length old ≡ face_count M) {a : Answer} {states : List ℕ} (c : ChosenFor M a states) where
    pub verdict_is : turn_verdict M (length old) ≡ stated a
    unfolding turn_verdict fault36
    verdict_is =
        or_else_sound (list_faults M or_else turn_faults M) (single_miss 36 (length old) (ap not (eq-eqb (length old) (face_count M) q))) ∙ sym c.answers

    module _ (d : a ≡ done) where
      pub passes : list_faults M ≡ sound
      passes = sound_left _ _ (sym c.answers ∙ ap stated d)

      pub turned_done : {count : ℕ} {corners sharpness out : List ℕ} → sharpness ≡ turned_pairs M.sides M.sharpness (turns_by states)
          → Written (turns_by states) M.sides M.corners old count corners out
          → TurnedTo M old (Ok count) (mesh_of M.coordinates M.sides corners sharpness) out
      turned_done {sharpness = sharpness} s w =
          let same : (f : ℕ) → f < face_count M → turns_by states f ≡ turns_of M f = c.turns (ap stated d) in
          let sums = (listed_of M passes).sums in
          let long = long_of M passes in
          let faces : faces_of (turns_by states) 0 (face_count M) ≡ faces_of (turns_of M) 0 (face_count M) =
          faces_same (turns_by states) (turns_of M) 0 (face_count M) (λ f a b. same f (omega arith)) in
          record {
            answers = sym (verdict_is ∙ ap stated d);
            counts = w.counts ∙ ap length faces;
            holds =
                rw (
                  w.corners_are ∙ corners_same M.sides M.corners M.sharpness sums long (turns_by states) (turns_of M) same,
                  s ∙ pairs_same M.sides M.corners M.sharpness sums long (turns_by states) (turns_of M) same,
                );
            listing_holds = w.listing_is ∙ ap (λ (l : List ℕ). begins l old) faces;
          }
