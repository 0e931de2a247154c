-- A corner's own points in a lent list: the shape of a mesh's corner, and points that are put.
use Rattle.std.specs.Prelude.{◌≡◌, List, ℕ, ℤ}
use Rattle.paper.specs.Mesh.{Mesh}
use Rattle.paper.specs.Net.{side0, side1}
use Rattle.paper.specs.Calls.{nets}
use Rattle.paper.specs.Triangles.{level, segments, group_size, coordinate_at}
use Rattle.net_points.specs.declared.writing.Shape.{Shape}
use Rattle.strips.specs.PointRows.{Stands}
use Rattle.numbering.specs.declared.CornerTables.{CornerTables}
use Rattle.numbering.specs.Meshed.{OfTables}

-- the shape of corner c
pub record ShapeOf (M : Mesh) (levels : List ℕ) (c : ℕ) (s : Shape) : Type 0 where
  pub vertex : s.vertex ≡ group_size M levels c 0
  pub edge : s.edge ≡ group_size M levels c 1
  pub face : s.face ≡ group_size M levels c 2
  pub first : s.first ≡ segments M levels c side0
  pub second : s.second ≡ segments M levels c side1
  pub levelled : s.level ≡ level levels c

-- the points from number a to number b of the list stand from `at` to `to`
abbrev pub Pointed : Mesh → List ℕ → ℕ → ℕ → ℕ → ℕ → List ℤ → List ℤ → Type 0
Pointed M levels = Stands (coordinate_at M levels)

-- the nets of a mesh's corners from `first` on
pub record Netted (T : CornerTables) (numbers : List ℤ) (first count : ℕ) : Type 0 where
  pub mesh : Mesh
  pub is : OfTables mesh T
  pub numbers_are : numbers ≡ nets mesh first count
