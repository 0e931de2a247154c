-- The bytes of a mesh file: the mark DMS, the version, the counts of vertices, faces and corners, then the lists; all numbers have their low byte first.
use Rattle.std.specs.Prelude.{◌≡◌, Bool, true, false, not, List, [], ◌∷◌, ◌++◌, ℕ, zero, suc, ◌/◌, ◌%◌, length, get_or, replicate, ℤ, pos}
use Rattle.std.specs.Int.{w32}
use Rattle.std.proofs.Common.{of_z}
use Rattle.paper.specs.Mesh.{Mesh, plain}
use Rattle.streams.specs.text.Text.{Put}

-- the low 16 bits of a number
abbrev pub half_bytes : ℕ → List ℕ
half_bytes n = (n % 256) ∷ (n / 256 % 256) ∷ []

-- the 32 bits of a number, in two's complement
abbrev pub word_bytes : ℤ → List ℕ
word_bytes z = half_bytes (of_z w32 z) ++ half_bytes (of_z w32 z / 65536)

-- the first i coordinates, and the first i corners
unfoldable pub coordinate_bytes : List ℤ → ℕ → List ℕ
coordinate_bytes coordinates zero = []
coordinate_bytes coordinates (suc i) = coordinate_bytes coordinates i ++ word_bytes (get_or coordinates i (pos 0))

unfoldable pub corner_bytes : List ℕ → ℕ → List ℕ
corner_bytes corners zero = []
corner_bytes corners (suc c) = corner_bytes corners c ++ half_bytes (get_or corners c 0)

abbrev pub header_bytes : ℕ → ℕ → ℕ → ℕ → List ℕ
header_bytes version vertices faces corners =
    (68 ∷ 77 ∷ 83 ∷ []) ++ (half_bytes version ++ (half_bytes vertices ++ (half_bytes faces ++ half_bytes corners)))

-- the header, and the three lists that both versions have
abbrev pub list_bytes : ℕ → List ℤ → List ℕ → List ℕ → List ℕ
list_bytes version coordinates sides corners =
    header_bytes version (length coordinates / 3) (length sides) (length corners)
    ++ (coordinate_bytes coordinates (length coordinates) ++ (sides ++ corner_bytes corners (length corners)))

-- the file of version 2, which has the sharpness list, or of version 1
unfoldable pub file_bytes : Bool → Mesh → List ℕ
file_bytes true M = list_bytes 2 M.coordinates M.sides M.corners ++ M.sharpness
file_bytes false M = list_bytes 1 M.coordinates M.sides M.corners

-- whether a list is 8 throughout
pub record TellsPlain (list : List ℕ) (r : Bool) : Type 0 where
  pub says : r ≡ true → list ≡ replicate (length list) plain
  pub said : list ≡ replicate (length list) plain → r ≡ true

-- the file of version 1 was put where that says the mesh, else of version 2
pub record ShortestPut (M : Mesh) (old new : List ℕ) (to : ℕ) : Type 0 where
  pub eights : Bool
  pub says : TellsPlain M.sharpness eights
  pub put : Put old 0 (file_bytes (not eights) M) new to
