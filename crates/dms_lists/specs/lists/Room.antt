-- A file's lists in lent spaces.
use Rattle.std.specs.Prelude.{◌≡◌, List, ℕ, ◌*◌, ◌≤◌}
use Rattle.paper.specs.Mesh.{Mesh}
use Rattle.paper.specs.File.{vertices_in, faces_in, corners_in, file_mesh, begins}

-- lent spaces of these lengths have room for the lists
pub record Room (file : List ℕ) (coordinates sides corners sharpness : ℕ) : Type 0 where
  pub coordinates_fit : 3 * vertices_in file ≤ coordinates
  pub sides_fit : faces_in file ≤ sides
  pub corners_fit : corners_in file ≤ corners
  pub sharpness_fit : 2 * corners_in file ≤ sharpness

-- the lists of the file's mesh stand in the beginnings of the spaces
pub record ListsRead (file : List ℕ) (lent left : Mesh) : Type 0 where
  pub coordinates_hold : left.coordinates ≡ begins (file_mesh file).coordinates lent.coordinates
  pub sides_hold : left.sides ≡ begins (file_mesh file).sides lent.sides
  pub corners_hold : left.corners ≡ begins (file_mesh file).corners lent.corners
  pub sharpness_hold : left.sharpness ≡ begins (file_mesh file).sharpness lent.sharpness
