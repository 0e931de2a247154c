-- Where the points of a quad-net stand in the output: x, y, z of each one after the other.
use Rattle.std.specs.Prelude.{◌≡◌, List, ℕ, ◌+◌, ◌*◌, ◌≤◌, ◌<◌, length, get_or, ℤ, pos}
use Rattle.paper.specs.Calls.{per_corner}

-- a point's numbers stand from `to` on, and what lies before them and from `width` numbers on is as before
pub record PointPut (x y z : ℤ) (to width : ℕ) (old new : List ℤ) : Type 0 where
  pub same : length new ≡ length old
  pub first : get_or new to (pos 0) ≡ x
  pub second : get_or new (to + 1) (pos 0) ≡ y
  pub third : get_or new (to + 2) (pos 0) ≡ z
  pub before : (i : ℕ) → i < to → get_or new i (pos 0) ≡ get_or old i (pos 0)
  pub after : (i : ℕ) → to + width ≤ i → get_or new i (pos 0) ≡ get_or old i (pos 0)

-- the points from `first` up to `end` stand in the output from `at` on; what lies before the first of them and from the end of a corner's numbers on
-- is as before
pub record PointsCopied (lanes : List ℤ) (at first end : ℕ) (old new : List ℤ) : Type 0 where
  pub same : length new ≡ length old
  pub points_are : (p a : ℕ) → first ≤ p → p < end → a < 3 → get_or new (at + 3 * p + a) (pos 0) ≡ get_or lanes (a + 4 * p) (pos 0)
  pub before : (i : ℕ) → i < at + 3 * first → get_or new i (pos 0) ≡ get_or old i (pos 0)
  pub after : (i : ℕ) → at + per_corner ≤ i → get_or new i (pos 0) ≡ get_or old i (pos 0)
