-- The lists of a mesh ("Mesh tables and links"), and its limits, each number of 01 once.
use Rattle.std.specs.Prelude.{List, ℕ, ◌*◌, ◌/◌, length, replicate, ℤ}
use Rattle.paper.specs.declared.Lengths.{Lengths}
use Rattle.paper.specs.declared.MeshLists.{MeshLists}

-- coordinate list (x, y, z of vertex 0, then of vertex 1 ..), side counts of the faces, the corner list: the vertex of each corner, face by face;
-- and the sharpness list: the numbers u and v of corner 0, then of corner 1 .., in sixteenths
pub record Mesh : Type 0 where
  pub coordinates : List ℤ
  pub sides : List ℕ
  pub corners : List ℕ
  pub sharpness : List ℕ

abbrev pub mesh_of : List ℤ → List ℕ → List ℕ → List ℕ → Mesh
mesh_of coordinates sides corners sharpness = record { coordinates = coordinates; sides = sides; corners = corners; sharpness = sharpness }

-- the mesh whose lists a call takes
abbrev pub of_lists : MeshLists → Mesh
of_lists L = mesh_of L.coordinates.now L.sides.now L.corners.now L.sharpness.now

abbrev pub vertex_count : Mesh → ℕ
vertex_count M = length M.coordinates / 3

abbrev pub face_count : Mesh → ℕ
face_count M = length M.sides

abbrev pub corner_count : Mesh → ℕ
corner_count M = length M.corners

-- the lengths of a mesh's lists, of which `Lengths` has the fields
abbrev pub four : ℕ → ℕ → ℕ → ℕ → Lengths
four coordinates sides corners sharpness = record { coordinates = coordinates; sides = sides; corners = corners; sharpness = sharpness }

abbrev pub lengths_of : Mesh → Lengths
lengths_of M = four (length M.coordinates) (length M.sides) (length M.corners) (length M.sharpness)

-- sides of a face, and corners of a vertex
abbrev pub least_sides : ℕ
least_sides = 3

abbrev pub most_sides : ℕ
most_sides = 16

abbrev pub most_vertices : ℕ
most_vertices = 2048

abbrev pub most_faces : ℕ
most_faces = 4096

abbrev pub most_corners : ℕ
most_corners = 8192

-- a coordinate lies within this on both sides of zero
abbrev pub most_coordinate : ℕ
most_coordinate = 65536

-- a sharpness number, in sixteenths
abbrev pub most_sharpness : ℕ
most_sharpness = 16

-- u and v where nothing else is said: with them the refined point is that of 01 (Refined.antt, `point_of01`)
abbrev pub plain : ℕ
plain = 8

-- 8 and 8 throughout
abbrev pub plain_list : ℕ → List ℕ
plain_list corners = replicate (2 * corners) plain

abbrev pub plain_mesh : List ℤ → List ℕ → List ℕ → Mesh
plain_mesh coordinates sides corners = mesh_of coordinates sides corners (plain_list (length corners))
