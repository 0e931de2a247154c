-- A call for triangles after its checks but for 255: what it answers and what it leaves.
use Rattle.std.specs.Prelude.{◌≡◌, List, ℕ, length, ℤ, IfOk}
use Rattle.paper.specs.Mesh.{Mesh}
use Rattle.paper.specs.Faults.{stated, kept, Told}
use Rattle.paper.specs.File.{begins}
use Rattle.paper.specs.Triangles.{point_list, triangle_list, triangle_room}
use Rattle.paper.specs.declared.Triangles.{Triangles}

pub record TrianglesFilled (M : Mesh) (levels : List ℕ) (first count : ℕ) (old : List ℤ) (old' : List ℕ) (r : Told Triangles) (points : List ℤ) (triangles : List ℕ) : Type 0 where
  pub answers : stated r ≡ triangle_room M levels first count (length old) (length old')
  pub lengths : IfOk r (λ n. (n.points ≡ length (point_list M levels first count)) × (n.triangles ≡ length (triangle_list M levels first count)))
  pub points_hold : points ≡ kept (stated r) (begins (point_list M levels first count) old) old
  pub triangles_hold : triangles ≡ kept (stated r) (begins (triangle_list M levels first count) old') old'
