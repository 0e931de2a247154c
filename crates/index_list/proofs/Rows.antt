-- Laws of the numbers at which the corners' points start, and of the rows of a net's sides, on the border and on the rings.
use mathlib.Core.Path.{◌≡◌, refl, ap, ◌∙◌}
use mathlib.Core.Bool.{Bool}
use mathlib.Core.List.{List}
use Prim.Native.Nat.{ℕ, zero, suc, ◌+◌, ◌-◌, ◌*◌, ◌≤◌, ◌<◌}
use native.Mathlib.Omega.{arith}
use lib.Dec.{ltb}
use borrow.Author.Tests.{le-ltb}
use Rattle.paper.specs.Scan.{pick_n}
use Rattle.paper.specs.Mesh.{Mesh}
use Rattle.paper.specs.Corners.{start_of}
use Rattle.paper.specs.Net.{Side, side0, side1, side2, side3}
use Rattle.paper.specs.Sampling.{side_at}
use Rattle.paper.specs.Triangles.{begin, turn, row_segments, end_number, curve_number, point_number, level, segments, groups, point_groups, points_before, number_in}
use Rattle.mesh.proofs.Faces.{start_zero}
use Rattle.strips.proofs.Cases.{number_back}
use Rattle.strips.specs.declared.NumberedRow.{NumberedRow}
use Rattle.strips.specs.PointRows.{row_number, ring_place}
use Rattle.numbering.specs.Meshed.{group_start, curve_start}
use Rattle.index_list.specs.Rows.{RowOf, upward}

-- ---- where the points of each corner start
pub points_zero : (M : Mesh) (levels : List ℕ) → points_before M levels 0 ≡ 0
unfolding points_before
points_zero M levels = ap (start_of (point_groups M levels)) (let z : groups * 0 ≡ 0 = omega arith in z) ∙ start_zero (point_groups M levels)

-- ---- the row on the border
module _ (M : Mesh) (levels : List ℕ) (c : ℕ) (s : Side) (r : NumberedRow) (first : r.first ≡ end_number M levels c (begin s))
    (last : r.last ≡ end_number M levels c (begin (turn s))) (base : r.base ≡ curve_start M levels c s) (parts : r.parts ≡ segments M levels c s) where
  curve_is : (s : Side) (j : ℕ) (b : Bool) → b ≡ upward s
      → pick_n b (curve_start M levels c s + (j - 1)) (curve_start M levels c s + (segments M levels c s - j - 1)) ≡ curve_number M levels c s j
  unfolding number_in
  curve_is side0 j b e = rw e
  curve_is side1 j b e = rw e
  curve_is side2 j b e = rw e
  curve_is side3 j b e = rw e

  outer_numbers : r.up ≡ upward s → (j : ℕ) → row_number r j ≡ point_number M levels c s 0 j
  unfolding row_number point_number
  outer_numbers e j = rw (first, last, base, parts, curve_is s j r.up e)

  pub outer_of : r.up ≡ upward s → RowOf M levels c s 0 r
  unfolding row_segments
  outer_of e = record { parts = parts; numbers = λ j l. outer_numbers e j }

pub upward_is : (side : ℕ) → side ≤ 3 → ltb side 2 ≡ upward (side_at side)
upward_is zero h = refl
upward_is (suc zero) h = refl
upward_is (suc (suc zero)) h = refl
upward_is (suc (suc (suc n))) h = le-ltb (suc (suc (suc n))) 2 (omega arith)

pub turn_next : (side : ℕ) → side < 3 → side_at (side + 1) ≡ turn (side_at side)
turn_next zero h = refl
turn_next (suc zero) h = refl
turn_next (suc (suc zero)) h = refl
turn_next (suc (suc (suc n))) h = absurd (omega arith)

pub turn_last : (side : ℕ) → 3 ≤ side → side_at 0 ≡ turn (side_at side)
turn_last zero h = absurd (omega arith)
turn_last (suc zero) h = absurd (omega arith)
turn_last (suc (suc zero)) h = absurd (omega arith)
turn_last (suc (suc (suc n))) h = refl

-- ---- a ring's row
pub ring_of : (M : Mesh) (levels : List ℕ) (c side k start : ℕ) (r : NumberedRow) → side ≤ 3 → r.parts ≡ level levels c - suc k → start ≡ group_start M levels c (5 + k)
    → ((j : ℕ) → j ≤ level levels c - suc k → row_number r j ≡ start + ring_place side (level levels c - suc k) j) → RowOf M levels c (side_at side) (suc k) r
unfolding row_segments point_number number_in
ring_of M levels c side k start r h p q n = record {
  parts = p;
  numbers = λ j l. n j (omega arith) ∙ rw (number_back side h) (ap (λ (x : ℕ). x + ring_place side (level levels c - suc k) j) q);
}
