-- Text as a list of bytes: decimal numbers, and text put into a buffer after what stands there.
use Rattle.std.specs.Prelude.{◌≡◌, cond, List, [], ◌∷◌, ◌++◌, ℕ, zero, suc, ◌+◌, ◌/◌, ◌%◌, ◌≤◌, ltb, length, take, drop, ℤ, pos, negsuc}

-- the digits of a number that has at most this many, the first one first
unfoldable pub decimal_within : ℕ → ℕ → List ℕ
decimal_within zero n = []
decimal_within (suc k) n = cond (ltb n 10) ((48 + n) ∷ []) (decimal_within k (n / 10) ++ ((48 + n % 10) ∷ []))

-- a number in decimal; one of 64 bits has at most 20 digits
abbrev pub decimal : ℕ → List ℕ
decimal n = decimal_within 20 n

-- a minus sign stands before a number below zero
abbrev pub signed_decimal : ℤ → List ℕ
signed_decimal (pos n) = decimal n
signed_decimal (negsuc n) = 45 ∷ decimal (suc n)

-- a text was put into a buffer at a place, as far as the buffer reaches: up to where it stopped the buffer holds what stood
-- before the place, and then the text; after where it stopped it is as it was
pub record Put (old : List ℕ) (at : ℕ) (text new : List ℕ) (to : ℕ) : Type 0 where
  pub holds : take to new ≡ take (length old) (take at old ++ text)
  pub inside : at ≤ length old → to ≤ length new
  pub onward : at ≤ to
  pub rest : drop to new ≡ drop to old
