-- The four planes up to a position; and four bytes stored.
use Rattle.std.specs.Prelude.{◌≡◌, ℕ, ◌+◌, ◌*◌, ◌/◌, ◌%◌, ◌<◌, List, length, ℤ, slice_index, slice_set}
use Rattle.paper.specs.Archive.{byte_of}

-- each plane holds the bytes of the differences below i
pub record Planed (numbers : List ℤ) (i : ℕ) (bytes : List ℕ) : Type 0 where
  pub long : length bytes ≡ 4 * length numbers
  pub lowest : (j : ℕ) → j < i → slice_index bytes j ≡ byte_of numbers 0 j
  pub second : (j : ℕ) → j < i → slice_index bytes (length numbers + j) ≡ byte_of numbers 1 j
  pub third : (j : ℕ) → j < i → slice_index bytes (2 * length numbers + j) ≡ byte_of numbers 2 j
  pub highest : (j : ℕ) → j < i → slice_index bytes (3 * length numbers + j) ≡ byte_of numbers 3 j

-- four bytes, the first at a place and each `step` places after the one before
unfoldable pub four_set : List ℕ → ℕ → ℕ → ℕ → ℕ → ℕ → ℕ → List ℕ
four_set bytes step at a b c d = slice_set (slice_set (slice_set (slice_set bytes at a) (step + at) b) (2 * step + at) c) (3 * step + at) d

-- the bytes of d at position i of four planes of n bytes each
abbrev pub spread : List ℕ → ℕ → ℕ → ℕ → List ℕ
spread bytes n i d = four_set bytes n i (d % 256) (d / 256 % 256) (d / 65536 % 256) (d / 16777216 % 256)
