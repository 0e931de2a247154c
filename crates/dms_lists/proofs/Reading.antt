-- The bytes of a file that are held, and its lists as they were read.
use mathlib.Core.Path.{◌≡◌, ◌∙◌, sym}
use mathlib.Core.Logic.{⊎_elim}
use mathlib.Core.List.{List}
use Prim.Native.Nat.{ℕ, ◌*◌, ◌<◌, ◌≤◌}
use native.Mathlib.Omega.{arith}
use lib.Dec.{ltb}
use lib.ListN.{length, take}
use lib.Seq.{take_all}
use borrow.Author.Tests.{ltb-true, ltb-false}
use Rattle.paper.specs.Mesh.{Mesh, mesh_of}
use Rattle.paper.specs.File.{vertices_in, faces_in, corners_in, file_mesh}
use Rattle.mesh.proofs.Scans.{ways}
use Rattle.dms_lists.specs.lists.Room.{ListsRead}
use Rattle.dms_lists.proofs.lists.Lists.{read_back_lem, file_coordinates, file_faces, file_corners, file_sharpness}

-- the bytes held are the file: as many of those read as the length says
pub held_bytes : (bytes : List ℕ) (held counted : ℕ) → (held < counted → held ≡ length bytes) → held ≤ counted → take held bytes ≡ take counted bytes
held_bytes bytes held counted all le =
    ⊎_elim
    (λ l. let q = all (ltb-true _ _ l) in take_all held bytes (omega arith) ∙ sym (take_all counted bytes (omega arith)))
    (λ l. let q : held ≡ counted = omega (arith, ltb-false held counted l) in rw q)
    (ways (ltb held counted))

-- the lists that were read make the file's mesh
module _ (file : List ℕ) (lent left : Mesh) (h : ListsRead file lent left) where
  coordinates_back : (n : ℕ) → n ≡ vertices_in file → take (3 * n) left.coordinates ≡ (file_mesh file).coordinates
  coordinates_back n q = read_back_lem (3 * n) (file_mesh file).coordinates lent.coordinates _ (rw q (file_coordinates file)) h.coordinates_hold

  sides_back : (n : ℕ) → n ≡ faces_in file → take n left.sides ≡ (file_mesh file).sides
  sides_back n q = read_back_lem _ (file_mesh file).sides lent.sides _ (q ∙ file_faces file) h.sides_hold

  corners_back : (n : ℕ) → n ≡ corners_in file → take n left.corners ≡ (file_mesh file).corners
  corners_back n q = read_back_lem _ (file_mesh file).corners lent.corners _ (q ∙ file_corners file) h.corners_hold

  sharpness_back : (n : ℕ) → n ≡ corners_in file → take (2 * n) left.sharpness ≡ (file_mesh file).sharpness
  sharpness_back n q = read_back_lem (2 * n) (file_mesh file).sharpness lent.sharpness _ (rw q (file_sharpness file)) h.sharpness_hold

  pub mesh_read : (n f k : ℕ) → n ≡ vertices_in file → f ≡ faces_in file → k ≡ corners_in file
      → mesh_of (take (3 * n) left.coordinates) (take f left.sides) (take k left.corners) (take (2 * k) left.sharpness) ≡ file_mesh file
  mesh_read n f k q r s = rw (coordinates_back n q, sides_back f r, corners_back k s, sharpness_back k s)

  -- as a part of a list asks it
  pub coordinates_long : (n : ℕ) → n ≡ vertices_in file → 3 * n ≡ length (take (3 * n) left.coordinates)
  coordinates_long n q = rw (coordinates_back n q, q) (file_coordinates file)

  pub sides_long : (n : ℕ) → n ≡ faces_in file → n ≡ length (take n left.sides)
  sides_long n q = rw (sides_back n q) (q ∙ file_faces file)

  pub corners_long : (n : ℕ) → n ≡ corners_in file → n ≡ length (take n left.corners)
  corners_long n q = rw (corners_back n q) (q ∙ file_corners file)

  pub sharpness_long : (n : ℕ) → n ≡ corners_in file → 2 * n ≡ length (take (2 * n) left.sharpness)
  sharpness_long n q = rw (sharpness_back n q, q) (file_sharpness file)
