-- The rows of a net's sides, and parts of the list of triangles.
use Rattle.std.specs.Prelude.{◌≡◌, Bool, true, false, List, ℕ, ◌+◌, ◌*◌, ◌≤◌}
use Rattle.paper.specs.Mesh.{Mesh}
use Rattle.paper.specs.Corners.{start_of}
use Rattle.paper.specs.Net.{Side, side0, side1, side2, side3}
use Rattle.paper.specs.Sampling.{most_parts}
use Rattle.paper.specs.Triangles.{strips, strip_sizes, row_segments, point_number, index_at}
use Rattle.strips.specs.declared.NumberedRow.{NumberedRow}
use Rattle.strips.specs.PointRows.{row_number, Stands}

-- row k of a side
pub record RowOf (M : Mesh) (levels : List ℕ) (c : ℕ) (s : Side) (k : ℕ) (r : NumberedRow) : Type 0 where
  pub parts : r.parts ≡ row_segments M levels c s k
  pub numbers : (j : ℕ) → j ≤ r.parts → row_number r j ≡ point_number M levels c s k j

-- the numbers of a side's curve rise in turn order where the corner has them itself
abbrev pub upward : Side → Bool
upward side0 = true
upward side1 = true
upward side2 = false
upward side3 = false

-- where the triangles of a side start, and those of the next
abbrev pub side_start : Mesh → List ℕ → ℕ → ℕ → ℕ
side_start M levels c side = start_of (strip_sizes M levels) (strips * c + most_parts * side)

-- the triangles from number a to number b of the list stand from `at` to `to`
abbrev pub TrianglesPut : Mesh → List ℕ → ℕ → ℕ → ℕ → ℕ → List ℕ → List ℕ → Type 0
TrianglesPut M levels = Stands (index_at M levels)
