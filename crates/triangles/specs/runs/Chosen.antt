-- The numbers that corners have of their own: nets that they come from, and what holds of each kind of them.
use Rattle.std.specs.Prelude.{◌≡◌, List, ℕ, ◌+◌, ◌≤◌, ℤ}
use Rattle.paper.specs.Mesh.{Mesh, corner_count}
use Rattle.paper.specs.File.{begins}
use Rattle.building.specs.writing.Written.{NetsDrawn}
use Rattle.strips.specs.PointRows.{Stands}
use Rattle.numbering.specs.declared.CornerTables.{CornerTables}
use Rattle.numbering.specs.Meshed.{OfTables}

-- a mesh with levels whose nets of `count` corners from `first` on the refined points give
pub record Drawing (T : CornerTables) (refined : List ℤ) (first count : ℕ) : Type 0 where
  pub mesh : Mesh
  pub is : OfTables mesh T
  pub draws : NetsDrawn mesh T.table.now refined first count

-- what holds of each kind of numbers: the corners before a later one have as many or more, and where those of a range stand, its list stands
pub record OwnLaws {A : Type 0} (before : Mesh → List ℕ → ℕ → ℕ) (number : Mesh → List ℕ → ℕ → A) (list : Mesh → List ℕ → ℕ → ℕ → List A) : Type 0 where
  pub rises : (M : Mesh) (levels : List ℕ) (c d : ℕ) → c ≤ d → d ≤ corner_count M → before M levels c ≤ before M levels d
  pub whole : (M : Mesh) (levels : List ℕ) (first count to : ℕ) (old out : List A)
      → Stands (number M levels) (before M levels first) (before M levels (first + count)) 0 to old out → out ≡ begins (list M levels first count) old
