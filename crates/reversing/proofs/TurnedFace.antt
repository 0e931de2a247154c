-- A turned face, corner by corner: its corner c has the leaving edge of another corner of the face, reversed. The corner is the one as
-- far from the face's last corner as c is from its first.
use mathlib.Core.Path.{◌≡◌, refl, ap, ◌∙◌, sym}
use mathlib.Core.Bool.{Bool, true, false}
use mathlib.Core.List.{List}
use Prim.Native.Nat.{ℕ, ◌+◌, ◌-◌, ◌<◌, ◌≤◌}
use native.Mathlib.Omega.{arith}
use lib.ListN.{length}
use borrow.Author.Tests.{eq-eqb, ne_eqb}
use Rattle.paper.specs.Scan.{pick_n}
use Rattle.paper.specs.Corners.{sum_of, face_of, first_of, sides_of, position_of, next}
use Rattle.paper.specs.Links.{vertex_of, leaves_to}
use Rattle.mesh.proofs.Faces.{first_from_lem, first_to, first_ends, first_same, sides_same, face_same, face_next, next_below, next_inner, next_last}
use Rattle.paper.specs.Turning.{counterpart, corner_from, turned_corners}
use Rattle.mesh.proofs.ByCases.{by_test, by_equal, by_less}
use Rattle.reversing.proofs.Rearranged.{length_rearranged, rearranged_at}

-- as far from the last corner as c is from the first
unfoldable pub flipped : List ℕ → ℕ → ℕ
flipped sides c = first_of sides c + (sides_of sides c - 1 - position_of sides c)

unfoldable pub moved : List ℕ → (ℕ → Bool) → ℕ → ℕ
moved sides t c = pick_n (t (face_of sides c)) (flipped sides c) c

module _ (sides : List ℕ) (c : ℕ) where
  flip_is : flipped sides c ≡ first_of sides c + (sides_of sides c - 1 - (c - first_of sides c))
  unfolding flipped
  flip_is = refl

  pub counterpart_first : position_of sides c ≡ 0 → counterpart sides c ≡ c
  unfolding counterpart
  counterpart_first e = rw (eq-eqb (position_of sides c) 0 e)

  pub counterpart_later : (position_of sides c ≡ 0 → ⊥) → counterpart sides c ≡ first_of sides c + (sides_of sides c - position_of sides c)
  unfolding counterpart
  counterpart_later n = rw (ne_eqb (position_of sides c) 0 n)

module _ (sides : List ℕ) (c : ℕ) (h : c < sum_of sides) where
  flip_from : first_of sides c ≤ flipped sides c
  flip_from = omega (arith, flip_is sides c)

  flip_to : flipped sides c < first_of sides c + sides_of sides c
  flip_to = omega (arith, flip_is sides c, first_from_lem sides c h, first_to sides c h)

  pub flip_below : flipped sides c < sum_of sides
  flip_below = omega (arith, flip_to, first_ends sides c h)

  pub face_flip : face_of sides (flipped sides c) ≡ face_of sides c
  face_flip = face_same sides c h (flipped sides c) flip_from flip_to

  first_flip : first_of sides (flipped sides c) ≡ first_of sides c
  first_flip = first_same sides c h (flipped sides c) flip_from flip_to

  sides_flip : sides_of sides (flipped sides c) ≡ sides_of sides c
  sides_flip = sides_same sides c h (flipped sides c) flip_from flip_to

  pub flip_flip : flipped sides (flipped sides c) ≡ c
  flip_flip =
      flip_is sides (flipped sides c) ∙ omega (arith, first_flip, sides_flip, first_from_lem sides c h, first_to sides c h, flip_is sides c)

  -- the corner that comes to c is the next of the flipped one
  pub counterpart_is : counterpart sides c ≡ next sides (flipped sides c)
  counterpart_is =
      let f = first_from_lem sides c h in
      let g = first_to sides c h in
      by_equal (c - first_of sides c) 0
      (λ z. counterpart_first sides c z
      ∙ sym (next_last sides (flipped sides c) (omega (arith, first_flip, sides_flip, flip_is sides c)) ∙ first_flip ∙ omega arith))
      (λ z. counterpart_later sides c z
      ∙ sym (next_inner sides (flipped sides c) (omega (arith, first_flip, sides_flip, flip_is sides c, z)) ∙ omega (arith, flip_is sides c, z)))

  -- and the one that comes to the next of c is the flipped one
  pub counterpart_next : counterpart sides (next sides c) ≡ flipped sides c
  counterpart_next =
      let f = first_from_lem sides c h in
      let g = first_to sides c h in
      by_less (c - first_of sides c + 1) (sides_of sides c)
      (λ z. let e : next sides c ≡ c + 1 = next_inner sides c z in
      let i : first_of sides (next sides c) ≡ first_of sides c = first_same sides c h (next sides c) (omega arith) (omega arith) in
      let j : sides_of sides (next sides c) ≡ sides_of sides c = sides_same sides c h (next sides c) (omega arith) (omega arith) in
      counterpart_later sides (next sides c) (λ q. omega arith) ∙ omega (arith, flip_is sides c))
      (λ z. let e : next sides c ≡ first_of sides c = next_last sides c z in
      let i : first_of sides (next sides c) ≡ first_of sides c = first_same sides c h (next sides c) (omega arith) (omega arith) in
      counterpart_first sides (next sides c) (omega arith) ∙ omega (arith, flip_is sides c))

-- a corner of a kept face and of a turned one
module _ (sides : List ℕ) (t : ℕ → Bool) (c : ℕ) where
  pub from_kept : t (face_of sides c) ≡ false → corner_from sides t c ≡ c
  unfolding corner_from
  from_kept e = rw e

  pub from_turned : t (face_of sides c) ≡ true → corner_from sides t c ≡ counterpart sides c
  unfolding corner_from
  from_turned e = rw e

  moved_kept : t (face_of sides c) ≡ false → moved sides t c ≡ c
  unfolding moved
  moved_kept e = rw e

  moved_turned : t (face_of sides c) ≡ true → moved sides t c ≡ flipped sides c
  unfolding moved
  moved_turned e = rw e

-- the turned corner list
module _ (sides corners : List ℕ) (sums : sum_of sides ≡ length corners) (t : ℕ → Bool) where
  pub length_turned : length (turned_corners sides corners t) ≡ length corners
  unfolding turned_corners
  length_turned = length_rearranged (corner_from sides t) corners

  pub turned_at : (c : ℕ) → c < length corners → vertex_of (turned_corners sides corners t) c ≡ vertex_of corners (corner_from sides t c)
  unfolding turned_corners
  turned_at = rearranged_at (corner_from sides t) corners

  module _ (c : ℕ) (h : c < length corners) where
    below : c < sum_of sides
    below = omega (arith, sums)

    next_in : next sides c < length corners
    next_in = omega (arith, sums, next_below sides c below)

    kept_vertex : t (face_of sides c) ≡ false → vertex_of (turned_corners sides corners t) c ≡ vertex_of corners c
    kept_vertex e = turned_at c h ∙ ap (vertex_of corners) (from_kept sides t c e)

    kept_to : t (face_of sides c) ≡ false → leaves_to sides (turned_corners sides corners t) c ≡ leaves_to sides corners c
    unfolding leaves_to
    kept_to e = turned_at (next sides c) next_in ∙ ap (vertex_of corners) (from_kept sides t (next sides c) (ap t (face_next sides c below) ∙ e))

    turned_vertex : t (face_of sides c) ≡ true → vertex_of (turned_corners sides corners t) c ≡ leaves_to sides corners (flipped sides c)
    unfolding leaves_to
    turned_vertex e = turned_at c h ∙ ap (vertex_of corners) (from_turned sides t c e ∙ counterpart_is sides c below)

    turned_to : t (face_of sides c) ≡ true → leaves_to sides (turned_corners sides corners t) c ≡ vertex_of corners (flipped sides c)
    unfolding leaves_to
    turned_to e =
        turned_at (next sides c) next_in
        ∙ ap (vertex_of corners) (from_turned sides t (next sides c) (ap t (face_next sides c below) ∙ e) ∙ counterpart_next sides c below)

  pub moved_in : (c : ℕ) → c < length corners → moved sides t c < length corners
  moved_in c h =
      by_test (t (face_of sides c))
      (λ e. omega (arith, sums, moved_turned sides t c e, flip_below sides c (below c h)))
      (λ e. omega (arith, moved_kept sides t c e))

  pub face_moved : (c : ℕ) → c < length corners → face_of sides (moved sides t c) ≡ face_of sides c
  face_moved c h =
      by_test (t (face_of sides c))
      (λ e. ap (face_of sides) (moved_turned sides t c e) ∙ face_flip sides c (below c h))
      (λ e. ap (face_of sides) (moved_kept sides t c e))

  pub moved_twice : (c : ℕ) → c < length corners → moved sides t (moved sides t c) ≡ c
  moved_twice c h =
      by_test (t (face_of sides c))
      (λ e. moved_turned sides t (moved sides t c) (ap t (face_moved c h) ∙ e) ∙ ap (flipped sides) (moved_turned sides t c e) ∙ flip_flip sides c (below c h))
      (λ e. moved_kept sides t (moved sides t c) (ap t (face_moved c h) ∙ e) ∙ moved_kept sides t c e)

  pub moved_vertex : (c : ℕ) → c < length corners
      → vertex_of (turned_corners sides corners t) (moved sides t c) ≡ pick_n (t (face_of sides c)) (leaves_to sides corners c) (vertex_of corners c)
  moved_vertex c h =
      by_test (t (face_of sides c))
      (λ e. turned_vertex (moved sides t c) (moved_in c h) (ap t (face_moved c h) ∙ e)
      ∙ ap (leaves_to sides corners) (ap (flipped sides) (moved_turned sides t c e) ∙ flip_flip sides c (below c h)) ∙ sym (rw e))
      (λ e. kept_vertex (moved sides t c) (moved_in c h) (ap t (face_moved c h) ∙ e) ∙ ap (vertex_of corners) (moved_kept sides t c e) ∙ sym (rw e))

  pub moved_to : (c : ℕ) → c < length corners
      → leaves_to sides (turned_corners sides corners t) (moved sides t c) ≡ pick_n (t (face_of sides c)) (vertex_of corners c) (leaves_to sides corners c)
  moved_to c h =
      by_test (t (face_of sides c))
      (λ e. turned_to (moved sides t c) (moved_in c h) (ap t (face_moved c h) ∙ e)
      ∙ ap (vertex_of corners) (ap (flipped sides) (moved_turned sides t c e) ∙ flip_flip sides c (below c h)) ∙ sym (rw e))
      (λ e. kept_to (moved sides t c) (moved_in c h) (ap t (face_moved c h) ∙ e) ∙ ap (leaves_to sides corners) (moved_kept sides t c e) ∙ sym (rw e))
