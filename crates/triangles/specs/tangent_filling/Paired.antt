-- A call for tangents after its checks but for 255: tangents that are put, what it answers and what it leaves.
use Rattle.std.specs.Prelude.{◌≡◌, List, ℕ, ◌*◌, ltb, length, ℤ, IfOk}
use Rattle.paper.specs.Mesh.{Mesh}
use Rattle.paper.specs.Faults.{single, stated, kept, Told}
use Rattle.paper.specs.File.{no_room, begins}
use Rattle.paper.specs.Triangles.{points_before}
use Rattle.paper.specs.Tangents.{tangent_at, tangent_list}
use Rattle.strips.specs.PointRows.{Stands}

-- how many tangents the corners before c have: two for each point
abbrev pub tangents_before : Mesh → List ℕ → ℕ → ℕ
tangents_before M levels c = 2 * points_before M levels c

-- the tangents from number a to number b of the list stand from `at` to `to`
abbrev pub TangentsPut : Mesh → List ℕ → ℕ → ℕ → ℕ → ℕ → List ℤ → List ℤ → Type 0
TangentsPut M levels = Stands (tangent_at M levels)

pub record PairsFilled (M : Mesh) (levels : List ℕ) (first count : ℕ) (old : List ℤ) (r : Told ℕ) (tangents : List ℤ) : Type 0 where
  pub answers : stated r ≡ single no_room (ltb (length old) (length (tangent_list M levels first count))) (length (tangent_list M levels first count))
  pub numbers_are : IfOk r (λ n. n ≡ length (tangent_list M levels first count))
  pub holds : tangents ≡ kept (stated r) (begins (tangent_list M levels first count) old) old
