-- Scans over the numbers below a bound: the lowest that passes a test, whether one does, how many do; a step repeated; values in a row.
use Rattle.std.specs.Prelude.{Bool, true, false, List, [], ◌∷◌, ℕ, zero, suc, ◌+◌, ltb}

abbrev pub pick_n : Bool → ℕ → ℕ → ℕ
pick_n true a b = a
pick_n false a b = b

-- the lowest number from `at` on, among `left`, that passes the test; `at + left` where none does
unfoldable pub first_from : (ℕ → Bool) → ℕ → ℕ → ℕ
first_from f at zero = at
first_from f at (suc left) = let r = first_from f (suc at) left in pick_n (f at) at r

-- the lowest number below n that passes the test; n where none does
unfoldable pub first_below : ℕ → (ℕ → Bool) → ℕ
first_below n f = first_from f 0 n

-- whether a number below n passes
unfoldable pub some_below : ℕ → (ℕ → Bool) → Bool
some_below n f = ltb (first_below n f) n

-- how many numbers below n pass
unfoldable pub count_below : ℕ → (ℕ → Bool) → ℕ
count_below zero f = 0
count_below (suc n) f = pick_n (f n) 1 0 + count_below n f

-- the step made k times
unfoldable pub iterate : ℕ → (ℕ → ℕ) → ℕ → ℕ
iterate zero step c = c
iterate (suc k) step c = step (iterate k step c)

-- the values of a function at `left` numbers from `at` on
unfoldable pub values_from : {A : Type 0} → (ℕ → A) → ℕ → ℕ → List A
values_from f at zero = []
values_from f at (suc left) = f at ∷ values_from f (suc at) left
