-- What the shared check of 4 to 13 with 27 and 28 asks and answers, and what its tables hold.
use Rattle.std.specs.Prelude.{◌≡◌, List, ℕ, ◌*◌, ◌≤◌, length}
use Rattle.paper.specs.Mesh.{most_vertices, most_corners, Mesh, vertex_count, corner_count}
use Rattle.paper.specs.Faults.{sound, list_faults, verdict, Accepted, stated, Answer}
use Rattle.paper.specs.Refined.{corners_of}
use Rattle.walk.specs.Table.{row_length, Blank, Tabled}
use Rattle.checks.specs.columns.Vertices.{vertex_row}
use Rattle.checks.specs.columns.Chain.{Ready}
use Rattle.checks.specs.columns.Filled.{FacesFilled}

-- a table with a row for each of n corners, where these are not too many
abbrev pub RowsFor : ℕ → List ℕ → Type 0
RowsFor n table = n ≤ most_corners → row_length * n ≤ length table

-- such a table and a table of vertices with a row for each; the second is of zeros
pub record RoomFor (M : Mesh) (table vertices : List ℕ) : Type 0 where
  pub corners_fit : RowsFor (corner_count M) table
  pub vertices_fit : vertex_count M ≤ most_vertices → vertex_row * vertex_count M ≤ length vertices
  pub blank : Blank vertices

-- of every mesh; a refused one leaves the table of corners with any contents, as every mesh does the table of vertices
pub record Checked (M : Mesh) (r : Answer) (table : List ℕ) : Type 0 where
  pub answers : stated r ≡ verdict M
  pub tabled : Accepted M → Tabled (corners_of M) table

-- the checks 4 to 9 with 27 and 28
pub record ListsChecked (M : Mesh) (r : Answer) (table vertices : List ℕ) : Type 0 where
  pub answers : stated r ≡ list_faults M
  pub ready : stated r ≡ sound → Ready M.corners table vertices
  pub faced : stated r ≡ sound → FacesFilled M.sides table
