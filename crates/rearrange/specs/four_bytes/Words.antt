-- Lists of four-byte numbers, low byte first.
use Rattle.std.specs.Prelude.{◌≡◌, List, ℕ, ◌*◌, ◌<◌, length, get_or, ℤ, pos}
use Rattle.std.specs.Int.{w32}
use Rattle.std.proofs.Common.{of_z}
use Rattle.paper.specs.File.{word_at, signed_at}

-- number i of the bytes
abbrev pub number_in : List ℕ → ℕ → ℤ
number_in bytes i = signed_at bytes (4 * i)

-- the first i numbers stand in the bytes
pub record NumbersStored (numbers : List ℤ) (i : ℕ) (bytes : List ℕ) : Type 0 where
  pub long : length bytes ≡ 4 * length numbers
  pub words : (j : ℕ) → j < i → word_at bytes (4 * j) ≡ of_z w32 (get_or numbers j (pos 0))
