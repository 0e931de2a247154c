-- What the functions over the lists of a mesh assume: an accepted mesh's table of corners, levels, lowest corners; what each gives holds of every such mesh.
use Rattle.std.specs.Prelude.{◌≡◌, List, ℕ, ◌+◌, ◌*◌, ◌≤◌, ◌<◌, length, get_or}
use Rattle.paper.specs.Mesh.{Mesh, corner_count}
use Rattle.paper.specs.Corners.{start_of}
use Rattle.paper.specs.Faults.{Accepted}
use Rattle.paper.specs.Refined.{corners_of}
use Rattle.paper.specs.Net.{Side, side0, side1, side2, side3}
use Rattle.paper.specs.Borders.{beside}
use Rattle.paper.specs.Sampling.{most_parts}
use Rattle.paper.specs.Triangles.{groups, level, point_groups, points_before}
use Rattle.walk.specs.Table.{Tabled}
use Rattle.owners.specs.Corners.{Lowests}
use Rattle.numbering.specs.declared.CornerTables.{CornerTables}

-- the mesh M with levels, and the lists that the functions are lent
pub record Of (M : Mesh) (corners low table levels : List ℕ) : Type 0 where
  pub accepted : Accepted M
  pub tabled : Tabled (corners_of M) table
  pub corners_are : M.corners ≡ corners
  pub many : length levels ≡ corner_count M
  pub leveled : (c : ℕ) → c < corner_count M → (1 ≤ level levels c) × (level levels c ≤ most_parts)
  pub lows : Lowests corners low

pub record Given (corners low table levels : List ℕ) : Type 0 where
  pub mesh : Mesh
  pub is : Of mesh corners low table levels

-- the numbers at which the corners' points start
pub record PointsStarted (M : Mesh) (corners low table levels starts : List ℕ) : Type 0 where
  pub of : Of M corners low table levels
  pub long : corner_count M ≤ length starts
  pub starts_are : (c : ℕ) → c < corner_count M → get_or starts c 0 ≡ points_before M levels c

pub record Starting (corners low table levels starts : List ℕ) : Type 0 where
  pub mesh : Mesh
  pub is : PointsStarted mesh corners low table levels starts

-- the same of the tables that code passes together
abbrev pub OfTables : Mesh → CornerTables → Type 0
OfTables M L = Of M L.corners.now L.low.now L.table.now L.levels.now

abbrev pub GivenTables : CornerTables → Type 0
GivenTables L = Given L.corners.now L.low.now L.table.now L.levels.now

abbrev pub StartedTables : Mesh → CornerTables → List ℕ → Type 0
StartedTables M L starts = PointsStarted M L.corners.now L.low.now L.table.now L.levels.now starts

abbrev pub StartingTables : CornerTables → List ℕ → Type 0
StartingTables L starts = Starting L.corners.now L.low.now L.table.now L.levels.now starts

-- where group g of corner c starts, and where the inner points of a side's curve
abbrev pub group_start : Mesh → List ℕ → ℕ → ℕ → ℕ
group_start M levels c g = start_of (point_groups M levels) (groups * c + g)

abbrev pub curve_start : Mesh → List ℕ → ℕ → Side → ℕ
curve_start M levels c side0 = group_start M levels c 3
curve_start M levels c side1 = group_start M levels c 4
curve_start M levels c side2 = group_start M levels (beside M c side2) 4
curve_start M levels c side3 = group_start M levels (beside M c side3) 3
