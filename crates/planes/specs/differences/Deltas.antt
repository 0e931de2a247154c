-- The difference at a position; and a number restored from one.
use Rattle.std.specs.Prelude.{◌≡◌, ℕ, ◌+◌, ◌/◌, ◌%◌, ◌^◌, ◌<◌, List, ℤ, slice_set}
use Rattle.std.specs.Int.{w32}
use Rattle.std.proofs.Common.{to_z}
use Rattle.paper.specs.Archive.{delta, stored_at}

abbrev pub delta_at : List ℤ → ℕ → ℕ
delta_at numbers i = delta numbers (i / 3) (i % 3)

-- one number restored, from what the sum was: the new sum r, and the number in the list
pub record OneRestored (bytes : List ℕ) (n : ℕ) (old : List ℤ) (i sum r : ℕ) (out : List ℤ) : Type 0 where
  pub small : stored_at bytes n i < 2 ^ 32
  pub sums : r ≡ (sum + stored_at bytes n i) % 2 ^ 32
  pub holds : out ≡ slice_set old i (to_z w32 r)
