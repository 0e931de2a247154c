-- The table of refined points: a row of four numbers for each corner, its refined point on the three axes and one number that is not used.
use Rattle.std.specs.Prelude.{List, ℕ, ◌+◌, ◌*◌, get_or, ℤ, pos}

abbrev pub point_row : ℕ
point_row = 4

-- what stands there for corner c on an axis
abbrev pub point_at : List ℤ → ℕ → ℕ → ℤ
point_at points axis c = get_or points (point_row * c + axis) (pos 0)
