-- "The file": a header of mark, version and three counts, then the coordinates, the side counts and the corner list, and in version 2 the sharpness list;
-- all numbers have their low byte first. What the functions over a file answer: `survey` its counts, `decode` its lists, or why the file is turned down
-- (1 to 13 and 28).
use Rattle.std.specs.Prelude.{◌≡◌, Bool, not, ◌&&◌, ◌||◌, List, ◌++◌, ℕ, ◌+◌, ◌*◌, ltb, eqb, length, get_or, drop, take, ℤ, IfOk}
use Rattle.std.specs.Int.{w32}
use Rattle.std.proofs.Common.{to_z}
use Rattle.paper.specs.Scan.{pick_n, values_from}
use Rattle.paper.specs.Mesh.{Mesh, mesh_of, plain, lengths_of}
use Rattle.paper.specs.Faults.{Verdict, ◌or_else◌, single, fault4, verdict, stated, kept, Told}
use Rattle.paper.specs.Counts.{Counted}
use Rattle.paper.specs.declared.Counts.{Counts}
use Rattle.paper.specs.declared.Lengths.{Lengths}

-- ---- numbers in a file: 8, 16 and 32 bits, and 32 bits in two's complement
abbrev pub byte_at : List ℕ → ℕ → ℕ
byte_at file at = get_or file at 0

abbrev pub half_at : List ℕ → ℕ → ℕ
half_at file at = byte_at file at + 256 * byte_at file (at + 1)

abbrev pub word_at : List ℕ → ℕ → ℕ
word_at file at = half_at file at + 65536 * half_at file (at + 2)

abbrev pub signed_at : List ℕ → ℕ → ℤ
signed_at file at = to_z w32 (word_at file at)

-- ---- the header: the three bytes DMS, a 16-bit version, 16-bit counts of vertices, faces and corners
abbrev pub header_length : ℕ
header_length = 11

-- the mark DMS, hexadecimal 44 4D 53
unfoldable pub marked : List ℕ → Bool
marked file = eqb (byte_at file 0) 68 && (eqb (byte_at file 1) 77 && eqb (byte_at file 2) 83)

-- the versions that are read; the second has a sharpness list
abbrev pub version_in : List ℕ → ℕ
version_in file = half_at file 3

unfoldable pub known : List ℕ → Bool
known file = eqb (version_in file) 1 || eqb (version_in file) 2

unfoldable pub sharp : List ℕ → Bool
sharp file = eqb (version_in file) 2

abbrev pub vertices_in : List ℕ → ℕ
vertices_in file = half_at file 5

abbrev pub faces_in : List ℕ → ℕ
faces_in file = half_at file 7

abbrev pub corners_in : List ℕ → ℕ
corners_in file = half_at file 9

-- ---- where the lists start, and the length that 3 asks: 11 + 12 times vertices + faces + 2 times corners, and in version 2 another 2 times corners
abbrev pub sides_start : List ℕ → ℕ
sides_start file = header_length + 12 * vertices_in file

abbrev pub corners_start : List ℕ → ℕ
corners_start file = sides_start file + faces_in file

abbrev pub sharpness_start : List ℕ → ℕ
sharpness_start file = corners_start file + 2 * corners_in file

unfoldable pub sharpness_bytes : List ℕ → ℕ
sharpness_bytes file = pick_n (sharp file) (2 * corners_in file) 0

abbrev pub expected_length : List ℕ → ℕ
expected_length file = sharpness_start file + sharpness_bytes file

-- ---- the lists: x, y, z of each vertex in four bytes each, a byte for each face, two bytes for each corner; a byte for each sharpness number, and 8 for all
-- of them in version 1
abbrev pub coordinate_in : List ℕ → ℕ → ℤ
coordinate_in file i = signed_at file (header_length + 4 * i)

abbrev pub side_in : List ℕ → ℕ → ℕ → ℕ
side_in file start f = byte_at file (start + f)

abbrev pub corner_in : List ℕ → ℕ → ℕ → ℕ
corner_in file start c = half_at file (start + 2 * c)

unfoldable pub sharpness_in : List ℕ → ℕ → ℕ → ℕ
sharpness_in file start i = pick_n (sharp file) (byte_at file (start + i)) plain

unfoldable pub file_mesh : List ℕ → Mesh
file_mesh file =
    mesh_of
    (values_from (coordinate_in file) 0 (3 * vertices_in file))
    (values_from (side_in file (sides_start file)) 0 (faces_in file))
    (values_from (corner_in file (corners_start file)) 0 (corners_in file))
    (values_from (sharpness_in file (sharpness_start file)) 0 (2 * corners_in file))

-- 4, of the lists that the counts announce
abbrev pub counts_verdict : List ℕ → Verdict
counts_verdict file = single 4 (fault4 (3 * vertices_in file) (faces_in file) (corners_in file)) 0

-- ---- what the header says of a file of which `counted` bytes were counted and these are held: 1, 2 and 3; 4 from the counts;
-- and a line of our own: where fewer bytes are held than counted, 01 leaves the answer free, and it is 3 here
unfoldable pub length_verdict : List ℕ → ℕ → Verdict
length_verdict file counted =
    single 1 (ltb (length file) header_length || not (marked file)) 0
    or_else single 2 (not (known file)) 0
    or_else single 3 (not (eqb counted (expected_length file))) 0

unfoldable pub header_verdict : List ℕ → ℕ → Verdict
header_verdict file counted = length_verdict file counted or_else counts_verdict file or_else single 3 (ltb (length file) counted) 0

-- the file, of the bytes read and the length counted: as many of these bytes as the length says. 01 does not say what is
-- answered where fewer bytes were read than counted: fewer than 11 of them are 1, and else it is 3, where 1 to 4 do not apply.
abbrev pub file_of : List ℕ → ℕ → List ℕ
file_of bytes counted = take counted bytes

-- a file is checked by 1 to 13 and 28
unfoldable pub file_verdict : List ℕ → ℕ → Verdict
file_verdict file counted = header_verdict file counted or_else verdict (file_mesh file)

-- what is answered of a mesh, or of a file that has it, whose checks give this verdict
pub record Surveyed (M : Mesh) (v : Verdict) (r : Told Counts) : Type 0 where
  pub answers : stated r ≡ v
  pub counts : IfOk r (Counted M)

abbrev pub FileSurveyed : List ℕ → ℕ → Told Counts → Type 0
FileSurveyed file counted r = Surveyed (file_mesh file) (file_verdict file counted) r

-- our own number, outside 01's list: a lent space is shorter than its list (place: the list's length)
abbrev pub no_room : ℕ
no_room = 255

unfoldable pub room_verdict : List ℕ → ℕ → ℕ → ℕ → ℕ → Verdict
room_verdict file coordinates sides corners sharpness =
    single no_room (ltb coordinates (3 * vertices_in file)) (3 * vertices_in file)
    or_else single no_room (ltb sides (faces_in file)) (faces_in file)
    or_else single no_room (ltb corners (corners_in file)) (corners_in file)
    or_else single no_room (ltb sharpness (2 * corners_in file)) (2 * corners_in file)

-- decoding into spaces of these lengths refuses as 1 to 13 and 28 do, and then for room
unfoldable pub decode_verdict : List ℕ → ℕ → ℕ → ℕ → ℕ → ℕ → Verdict
decode_verdict file counted coordinates sides corners sharpness =
    file_verdict file counted or_else room_verdict file coordinates sides corners sharpness

-- a list in the beginning of a lent space, whose further entries keep their contents
abbrev pub begins : {A : Type 0} → List A → List A → List A
begins new old = new ++ drop (length new) old

-- the lists of M in the beginnings of lent ones
abbrev pub into : Mesh → Mesh → Mesh
into M lent =
    mesh_of (begins M.coordinates lent.coordinates) (begins M.sides lent.sides) (begins M.corners lent.corners)
    (begins M.sharpness lent.sharpness)

-- the four lengths, and what the four lent spaces hold: the lists in their beginnings, or what they held
pub record DecodedTo (file : List ℕ) (counted : ℕ) (lent : Mesh) (r : Told Lengths) (left : Mesh) : Type 0 where
  pub answers :
      stated r
      ≡ decode_verdict file counted (length lent.coordinates) (length lent.sides) (length lent.corners) (length lent.sharpness)
  pub lengths : IfOk r (λ l. l ≡ lengths_of (file_mesh file))
  pub coordinates_hold : left.coordinates ≡ kept (stated r) (begins (file_mesh file).coordinates lent.coordinates) lent.coordinates
  pub sides_hold : left.sides ≡ kept (stated r) (begins (file_mesh file).sides lent.sides) lent.sides
  pub corners_hold : left.corners ≡ kept (stated r) (begins (file_mesh file).corners lent.corners) lent.corners
  pub sharpness_hold : left.sharpness ≡ kept (stated r) (begins (file_mesh file).sharpness lent.sharpness) lent.sharpness
