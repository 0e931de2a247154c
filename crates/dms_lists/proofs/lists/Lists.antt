-- The lengths of a file's lists; the sharpness list of either version.
use mathlib.Core.Path.{◌≡◌, sym}
use mathlib.Core.Bool.{true, false}
use mathlib.Core.List.{List}
use Prim.Native.Nat.{ℕ, ◌*◌}
use lib.ListN.{length, take, drop, replicate}
use lib.Seq.{take_at}
use lib.IntN.{ℤ}
use Rattle.paper.specs.Scan.{values_from}
use Rattle.paper.specs.Mesh.{plain}
use Rattle.paper.specs.File.{begins, coordinate_in, side_in, corner_in, sharpness_in, sharp, vertices_in, faces_in, corners_in}
use Rattle.paper.specs.File.{sides_start, corners_start, sharpness_start, file_mesh}
use Rattle.mesh.proofs.Links.{values_length}
use Rattle.mesh.proofs.Fills.{values_same, values_all}

-- what was read is found again in the beginning of the space
pub read_back_lem : {A : Type 0} (n : ℕ) (new old out : List A) → n ≡ length new → out ≡ begins new old → take n out ≡ new
read_back_lem n new old out q e = rw e (take_at new (drop (length new) old) n (sym q))

module _ (file : List ℕ) where
  pub file_coordinates : 3 * vertices_in file ≡ length (file_mesh file).coordinates
  unfolding file_mesh
  file_coordinates = sym (values_length (coordinate_in file) 0 (3 * vertices_in file))

  pub file_faces : faces_in file ≡ length (file_mesh file).sides
  unfolding file_mesh
  file_faces = sym (values_length (side_in file (sides_start file)) 0 (faces_in file))

  pub file_corners : corners_in file ≡ length (file_mesh file).corners
  unfolding file_mesh
  file_corners = sym (values_length (corner_in file (corners_start file)) 0 (corners_in file))

  pub file_sharpness : 2 * corners_in file ≡ length (file_mesh file).sharpness
  unfolding file_mesh
  file_sharpness = sym (values_length (sharpness_in file (sharpness_start file)) 0 (2 * corners_in file))

  -- the lists, as they are read, are those of the file's mesh
  pub coordinates_read : (n : ℕ) (old out : List ℤ) → n ≡ 3 * vertices_in file → out ≡ begins (values_from (coordinate_in file) 0 n) old
      → out ≡ begins (file_mesh file).coordinates old
  unfolding file_mesh
  coordinates_read n old out q e = rw q at e

  pub sides_read : (start n : ℕ) (old out : List ℕ) → start ≡ sides_start file → n ≡ faces_in file → out ≡ begins (values_from (side_in file start) 0 n) old
      → out ≡ begins (file_mesh file).sides old
  unfolding file_mesh
  sides_read start n old out p q e = rw (p, q) at e

  pub corners_read : (start n : ℕ) (old out : List ℕ) → start ≡ corners_start file → n ≡ corners_in file → out ≡ begins (values_from (corner_in file start) 0 n) old
      → out ≡ begins (file_mesh file).corners old
  unfolding file_mesh
  corners_read start n old out p q e = rw (p, q) at e

  pub sharpness_read : (old out : List ℕ) → out ≡ begins (values_from (sharpness_in file (sharpness_start file)) 0 (2 * corners_in file)) old
      → out ≡ begins (file_mesh file).sharpness old
  unfolding file_mesh
  sharpness_read old out e = e

  -- in version 2 they are the bytes, else 8
  sharp_values : sharp file ≡ true → (start n : ℕ) → values_from (sharpness_in file start) 0 n ≡ values_from (side_in file start) 0 n
  unfolding sharpness_in
  sharp_values e start n = values_same (sharpness_in file start) (side_in file start) 0 n (λ k. rw e)

  pub plain_values : sharp file ≡ false → (start n : ℕ) → values_from (sharpness_in file start) 0 n ≡ replicate n plain
  unfolding sharpness_in
  plain_values e start n = values_all (sharpness_in file start) plain 0 n (λ k. rw e)

  pub bytes_read : (start n : ℕ) (old out : List ℕ) → sharp file ≡ true → start ≡ sharpness_start file → n ≡ 2 * corners_in file
      → out ≡ begins (values_from (side_in file start) 0 n) old
      → out ≡ begins (values_from (sharpness_in file (sharpness_start file)) 0 (2 * corners_in file)) old
  bytes_read start n old out s p q e =
      let h : out ≡ begins (values_from (side_in file (sharpness_start file)) 0 (2 * corners_in file)) old = rw (p, q) at e in
      rw (sharp_values s (sharpness_start file) (2 * corners_in file)) h

  pub plain_read : (n : ℕ) (old out : List ℕ) → sharp file ≡ false → n ≡ 2 * corners_in file → out ≡ begins (replicate n plain) old
      → out ≡ begins (values_from (sharpness_in file (sharpness_start file)) 0 (2 * corners_in file)) old
  plain_read n old out s q e =
      let h : out ≡ begins (replicate (2 * corners_in file) plain) old = rw q at e in
      rw (plain_values s (sharpness_start file) (2 * corners_in file)) h
