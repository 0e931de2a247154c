-- A mesh as the code draws it: the table of its corners, and the table of their refined points on the three axes.
use Rattle.std.specs.Prelude.{List, ℕ, ◌*◌, ◌≤◌, ◌<◌, length, ℤ}
use Rattle.paper.specs.Numbers.{rounded}
use Rattle.paper.specs.Refined.{RefinedMesh}
use Rattle.surface.specs.Sound.{Sound, RefinedSmall}
use Rattle.surface.specs.Points.{point_row, point_at}
use Rattle.surface.specs.Sizes.{RefinedSize}
use Rattle.walk.specs.Table.{row_length, tabled}

-- the mesh on an axis that the tables tell
abbrev pub drawn : ℕ → List ℕ → List ℤ → ℕ → RefinedMesh rounded
drawn count table points axis = record { corners = tabled count table; point = point_at points axis }

-- the tables have the corners of an accepted mesh, and for each corner refined points that are no larger than such a mesh has; the fourth number of
-- a row is no larger either
pub record Drawn (count : ℕ) (table : List ℕ) (points : List ℤ) : Type 0 where
  pub sound : Sound (tabled count table)
  pub table_long : row_length * count ≤ length table
  pub points_long : point_row * count ≤ length points
  pub small : (axis : ℕ) → axis < 3 → RefinedSmall (drawn count table points axis)
  pub fourth : (c : ℕ) → c < count → RefinedSize (point_at points 3 c)

-- c is one of the `count` corners of an accepted mesh that the table has
pub record CornerIn (count : ℕ) (table : List ℕ) (c : ℕ) : Type 0 where
  pub sound : Sound (tabled count table)
  pub table_long : row_length * count ≤ length table
  pub here : c < count
