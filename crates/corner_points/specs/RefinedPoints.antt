-- The table of refined points, with a row for each corner.
use Rattle.std.specs.Prelude.{◌≡◌, List, ℕ, ◌+◌, ◌*◌, ◌^◌, ◌<◌, ◌≤◌, length, get_or, ℤ, pos, nat_abs}
use Rattle.surface.specs.Points.{point_row}

-- no entry is larger than a refined point may be
abbrev pub SmallPoints : List ℤ → Type 0
SmallPoints points = (i : ℕ) → nat_abs (get_or points i (pos 0)) ≤ 2 ^ 24

-- the corners that P chooses have the values on the three axes, and the table is otherwise as before
pub record PointsPut (value : ℕ → ℕ → ℤ) (P : ℕ → Type 0) (old new : List ℤ) : Type 0 where
  pub points_are : (axis c : ℕ) → axis < 3 → P c → get_or new (point_row * c + axis) (pos 0) ≡ value axis c
  pub others : (i : ℕ) → ((axis c : ℕ) → axis < 3 → P c → i ≡ point_row * c + axis → ⊥) → get_or new i (pos 0) ≡ get_or old i (pos 0)
  pub same : length new ≡ length old
  pub small : SmallPoints new
