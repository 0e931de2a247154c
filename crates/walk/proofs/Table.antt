-- Laws of the table of corners: where a step leads, that a table with n rows is the table of the corners that it tells, and what stands
-- in a table after a store.
use mathlib.Core.Path.{◌≡◌, refl, ◌∙◌}
use mathlib.Core.Bool.{Bool, true, false}
use mathlib.Core.List.{List}
use Prim.Native.Nat.{ℕ, zero, suc, ◌+◌, ◌*◌, ◌<◌}
use native.Mathlib.Omega.{arith}
use lib.Dec.{eqb}
use lib.ListN.{length, get_or, set, replicate}
use lib.Seq.{get_or-set_same, get_or-set_other}
use borrow.Author.Tests.{eqb-true, eqb-false}
use Rattle.paper.specs.Refined.{Corners}
use Rattle.walk.specs.Table.{row_length, entry, KeptBut, Blank, Tabled, Led}

-- what is read is where the step leads, if the column holds that step
pub led : (table : List ℕ) (k : ℕ) (step : Corners → ℕ → ℕ) (c d : ℕ)
    → ((K : Corners) → Tabled K table → c < K.count → entry table k c ≡ step K c) → d ≡ entry table k c → Led table k step c d
led table k step c d column e = record { read = e; leads = λ K T l. e ∙ column K T l }

-- ---- tables of rows of r numbers, whose places are apart: those of one column by their row, others by their column
pub record PlacesApart (r : ℕ) : Type 0 where
  pub rows_apart : (i j k : ℕ) → r * i + k ≡ r * j + k → i ≡ j
  pub columns_apart : (i j k l : ℕ) → k < r → l < r → r * i + k ≡ r * j + l → k ≡ l

-- a store in column k, at row i
module _ (r : ℕ) (rows : PlacesApart r) (table : List ℕ) (k i x : ℕ) where
  -- what the column then holds at row j
  pub row_put : (P : ℕ → Type 0) (j : ℕ) → r * i + k < length table → (j ≡ i → P x) → ((j ≡ i → ⊥) → P (get_or table (r * j + k) 0))
      → P (get_or (set table (r * i + k) x) (r * j + k) 0)
  row_put P j h same other = told (eqb j i) refl
    where
      told : (b : Bool) → eqb j i ≡ b → P (get_or (set table (r * i + k) x) (r * j + k) 0)
      told true e =
          let q : j ≡ i = eqb-true j i e in
          rw q (rw (get_or-set_same table (r * i + k) x 0 h) (same q))
      told false e =
          let n : j ≡ i → ⊥ = eqb-false j i e in
          rw (get_or-set_other table (r * i + k) (r * j + k) x 0 (λ q. n (rows.rows_apart j i k q))) (other n)

  -- the other columns are as they were
  pub row_kept : k < r → (j : ℕ) → j < r → (j ≡ k → ⊥) → (c : ℕ) → get_or (set table (r * i + k) x) (r * c + j) 0 ≡ get_or table (r * c + j) 0
  row_kept l j m n c = get_or-set_other table (r * i + k) (r * c + j) x 0 (λ q. n (rows.columns_apart c i j k m l q))

-- ---- the same of the table of corners
corner_rows : PlacesApart row_length
corner_rows = record { rows_apart = λ i j k q. omega arith; columns_apart = λ i j k l a b q. omega arith }

module _ (table : List ℕ) (k i x : ℕ) where
  pub put : (P : ℕ → Type 0) (j : ℕ) → row_length * i + k < length table → (j ≡ i → P x) → ((j ≡ i → ⊥) → P (entry table k j))
      → P (entry (set table (row_length * i + k) x) k j)
  put = row_put row_length corner_rows table k i x

  pub kept_put : k < row_length → KeptBut k table (set table (row_length * i + k) x)
  kept_put = row_kept row_length corner_rows table k i x

pub blank : (n : ℕ) → Blank (replicate n 0)
blank zero i = refl
blank (suc n) zero = refl
blank (suc n) (suc i) = blank n i
