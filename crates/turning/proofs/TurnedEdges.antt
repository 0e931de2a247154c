-- The edges of lists that pass 5, 6 and 9: their ends are apart, and a turned face exchanges them.
use mathlib.Core.Path.{◌≡◌, refl, ◌∙◌, sym}
use mathlib.Core.Bool.{Bool, true, false, cond, xor, ◌&&◌, and_comm}
use mathlib.Core.List.{List}
use Prim.Native.Nat.{ℕ, ◌+◌, ◌-◌, ◌<◌, ◌≤◌}
use native.Mathlib.Omega.{arith}
use lib.Dec.{eqb}
use lib.ListN.{length}
use borrow.Author.Tests.{eq-eqb, le-leb}
use Rattle.paper.specs.Scan.{pick_n}
use Rattle.paper.specs.Corners.{sum_of, face_of, first_of, sides_of, next}
use Rattle.paper.specs.Links.{vertex_of, leaves_to, same_edge, reverse_edge}
use Rattle.paper.specs.Faults.{fault9, same_vertex_from}
use Rattle.mesh.proofs.Scans.{clash, and_true, none}
use Rattle.mesh.proofs.Faces.{held, first_from_lem, first_to, first_same, next_below, next_inner, next_last}
use Rattle.paper.specs.Turning.{turned_corners}
use Rattle.mesh.proofs.ByCases.{by_less}
use Rattle.partners.specs.Lists.{FacesListed}
use Rattle.partners.proofs.SharedEdges.{same_ends, reverse_ends, same_of}
use Rattle.reversing.proofs.TurnedFace.{moved, moved_in, moved_twice, moved_vertex, moved_to}
use Rattle.turning.proofs.Edges.{Sided, Moved}
use Rattle.turning.proofs.Parts.{xor_self}

-- an edge is compared by its ends, which a turned face exchanges
moved_same : (p q : Bool) (a b a' b' : ℕ)
    → eqb (pick_n q b' a') (pick_n p b a) && eqb (pick_n q a' b') (pick_n p a b) ≡ cond (xor p q) (eqb a' b && eqb b' a) (eqb a' a && eqb b' b)
unfolding xor
moved_same true true a b a' b' = and_comm (eqb b' b) (eqb a' a)
moved_same true false a b a' b' = refl
moved_same false true a b a' b' = and_comm (eqb b' a) (eqb a' b)
moved_same false false a b a' b' = refl

module _ {sides corners : List ℕ} (k : FacesListed sides corners) where
  pub face_in : (c : ℕ) → c < length corners → face_of sides c < length sides
  face_in c h = (held sides c (omega (arith, k.sums))).exists

  three : (c : ℕ) → c < length corners → 3 ≤ sides_of sides c
  unfolding sides_of
  three c h = k.least (face_of sides c) (face_in c h)

  distinct : (c d : ℕ) → c < length corners → first_of sides c ≤ d → d < c → vertex_of corners d ≡ vertex_of corners c → ⊥
  unfolding fault9 same_vertex_from
  distinct c d h a b e =
      clash (and_true _ _ (le-leb (first_of sides c) d a) (eq-eqb (vertex_of corners d) (vertex_of corners c) e))
      (none c (same_vertex_from (first_of sides c) corners c) (k.nine c h) d b)

  -- the ends of an edge are apart
  pub ends_apart : (c : ℕ) → c < length corners → vertex_of corners c ≡ leaves_to sides corners c → ⊥
  unfolding leaves_to
  ends_apart c h e =
      let b : c < sum_of sides = omega (arith, k.sums) in
      let f = first_from_lem sides c b in
      let g = first_to sides c b in
      let r = three c h in
      let l : next sides c < length corners = omega (arith, k.sums, next_below sides c b) in
      by_less (c - first_of sides c + 1) (sides_of sides c)
      (λ z. let n : next sides c ≡ c + 1 = next_inner sides c z in
      let i : first_of sides (next sides c) ≡ first_of sides c = first_same sides c b (next sides c) (omega arith) (omega arith) in
      distinct (next sides c) c l (omega arith) (omega arith) e)
      (λ z. let n : next sides c ≡ first_of sides c = next_last sides c z in
      distinct c (next sides c) h (omega arith) (omega arith) (sym e))

  pub sided : Sided (length corners) (same_edge sides corners) (reverse_edge sides corners)
  sided =
      record {
        self = λ c. same_of sides corners c c refl refl;
        exclusive = λ c d h l p q. ends_apart c h (sym (same_ends sides corners c d p).0 ∙ (reverse_ends sides corners c d q).0);
      }

  module _ (t : ℕ → Bool) where
    pub moves : Moved (length corners) (same_edge sides corners) (reverse_edge sides corners)
        (same_edge sides (turned_corners sides corners t)) (reverse_edge sides (turned_corners sides corners t)) (moved sides t)
        (λ c d. xor (t (face_of sides c)) (t (face_of sides d)))
    unfolding same_edge reverse_edge
    moves =
        let from = moved_vertex sides corners k.sums t in
        let to = moved_to sides corners k.sums t in
        record {
          inside = moved_in sides corners k.sums t;
          twice = moved_twice sides corners k.sums t;
          unlike_self = λ c. xor_self (t (face_of sides c));
          same_moved = λ c d h l. rw (from c h, from d l, to c h, to d l) (moved_same (t (face_of sides c)) (t (face_of sides d)) _ _ _ _);
          rev_moved = λ c d h l. rw (from c h, from d l, to c h, to d l) (moved_same (t (face_of sides c)) (t (face_of sides d)) (leaves_to sides corners c) _ _ _);
        }
