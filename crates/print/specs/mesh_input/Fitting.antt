-- The lists of a file in lent ones that have room for every mesh.
use Rattle.std.specs.Prelude.{◌≡◌, List, ℕ, ◌*◌, ◌≤◌, Ok, Err, IfOk, OnErr}
use Rattle.std.specs.declared.result.Result.{Result}
use Rattle.paper.specs.Mesh.{most_vertices, most_faces, most_corners, Mesh}
use Rattle.paper.specs.File.{file_of, DecodedTo}
use Rattle.paper.specs.declared.Lengths.{Lengths}
use Rattle.paper.specs.declared.Refusal.{Refusal}
use Rattle.print.specs.declared.mesh_input.MeshLengths.{MeshLengths}
use Rattle.print.specs.declared.mesh_input.NoMesh.{NoMesh}
use Rattle.print.specs.declared.mesh_input.NoMesh.TheVariants.{Refused}

-- lists of these lengths fit
pub record Fitting (r : MeshLengths) : Type 0 where
  pub coordinates_fit : r.numbers ≤ 3 * most_vertices
  pub sides_fit : r.faces ≤ most_faces
  pub corners_fit : r.corners ≤ most_corners
  pub sharpness_fit : r.pairs ≤ 2 * most_corners

-- decoding these bytes was done, and these are the lengths of the lists that it left
pub record Decodes (bytes : List ℕ) (counted : ℕ) (lent : Mesh) (r : MeshLengths) (left : Mesh) : Type 0 where
  pub decoded : Lengths
  pub reads : DecodedTo (file_of bytes counted) counted lent (Ok decoded) left
  pub numbers_are : r.numbers ≡ decoded.coordinates
  pub faces_are : r.faces ≡ decoded.sides
  pub corners_are : r.corners ≡ decoded.corners
  pub pairs_are : r.pairs ≡ decoded.sharpness

-- these bytes were decoded into lent lists, which are as they were where there is no mesh; a refusal is what decoding answers
pub record FileRead (bytes : List ℕ) (counted : ℕ) (lent : Mesh) (r : Result MeshLengths NoMesh) (left : Mesh) : Type 0 where
  pub fits : IfOk r Fitting
  pub found : IfOk r (λ m. Decodes bytes counted lent m left)
  pub none : OnErr r (left ≡ lent)
  pub refused : (x : Refusal) → r ≡ Err (Refused x) → DecodedTo (file_of bytes counted) counted lent (Err x) left

-- bytes that the system gave, which are free, were decoded into lent lists
pub record MeshRead (lent : Mesh) (r : Result MeshLengths NoMesh) (left : Mesh) : Type 0 where
  pub bytes : List ℕ
  pub counted : ℕ
  pub read : FileRead bytes counted lent r left
