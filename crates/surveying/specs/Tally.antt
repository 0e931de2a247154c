-- A tally of a list: how often each number stands in it.
use Rattle.std.specs.Prelude.{◌≡◌, Bool, List, ℕ, eqb, length, get_or}
use Rattle.paper.specs.Scan.{count_below, values_from}

-- the value at j is m
abbrev pub stands : List ℕ → ℕ → ℕ → Bool
stands values m j = eqb (get_or values j 0) m

-- of the first i values, how many are 0, 1, .. as far as a table of this size reaches
unfoldable pub tally_to : List ℕ → ℕ → ℕ → List ℕ
tally_to values i size = values_from (λ m. count_below i (stands values m)) 0 size

abbrev pub tally_of : List ℕ → ℕ → List ℕ
tally_of values size = tally_to values (length values) size

-- what a conversion gives of each value is its number
abbrev pub Numbers : {T : Type 0} → (T → ℕ → Type 0) → (T → ℕ) → Type 0
Numbers {T} converts number = (x : T) (n : ℕ) → converts x n → n ≡ number x
