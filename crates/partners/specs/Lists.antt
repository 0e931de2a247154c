-- Lists that pass checks, and a table of corners that has the next corners.
use Rattle.std.specs.Prelude.{◌≡◌, false, List, ℕ, ◌*◌, ◌<◌, ◌≤◌, length, get_or}
use Rattle.paper.specs.Mesh.{least_sides, most_vertices, most_faces, most_corners}
use Rattle.paper.specs.Corners.{sum_of, next}
use Rattle.paper.specs.Faults.{fault9}
use Rattle.mesh.specs.Tables.{Named}
use Rattle.walk.specs.Table.{row_length, to_next, Column}

-- what checks 5, 6 and 9 leave: side counts that sum to the corner count, none below three, and faces that name no vertex twice
pub record FacesListed (sides corners : List ℕ) : Type 0 where
  pub sums : sum_of sides ≡ length corners
  pub least : (f : ℕ) → f < length sides → least_sides ≤ get_or sides f 0
  pub nine : (c : ℕ) → c < length corners → fault9 sides corners c ≡ false

-- lists that pass 4 to 9
pub record ListsPass (vertices : ℕ) (sides corners : List ℕ) : Type 0 where
  pub listed : FacesListed sides corners
  pub few_vertices : vertices ≤ most_vertices
  pub few_faces : length sides ≤ most_faces
  pub few_corners : length corners ≤ most_corners
  pub named : Named corners vertices

-- a table of corners that has the next corners
pub record Nexted (sides corners table : List ℕ) : Type 0 where
  pub long : row_length * length corners ≤ length table
  pub nexts : Column table to_next (next sides) (length corners)
