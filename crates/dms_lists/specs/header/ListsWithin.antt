-- What a header that passes says of a file's lists.
use Rattle.std.specs.Prelude.{List, ℕ, ◌≤◌, length}
use Rattle.paper.specs.Mesh.{most_vertices, most_faces, most_corners}
use Rattle.paper.specs.File.{header_length, vertices_in, faces_in, corners_in, expected_length}

-- what a header that passes says: the lists lie within the file and within the limits
pub record ListsWithin (file : List ℕ) : Type 0 where
  pub header : header_length ≤ length file
  pub body : expected_length file ≤ length file
  pub vertices : vertices_in file ≤ most_vertices
  pub faces : faces_in file ≤ most_faces
  pub corners : corners_in file ≤ most_corners
