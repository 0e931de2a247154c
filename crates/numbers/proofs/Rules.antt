-- The rules of the cosine table (`rules`), and what borders and sizes use beside them (`top`, `bottom`, `cosine_size`, `exact`, `quarter`).
-- Each is one test that is computed over all rows, and one law that reads it at a row; so a further row asks nothing new.
use mathlib.Core.Path.{◌≡◌, refl, sym, ap, ◌∙◌, subst}
use mathlib.Core.Bool.{Bool}
use mathlib.Core.List.{[]}
use Prim.Native.Nat.{ℕ, suc, ◌+◌, ◌-◌, ◌*◌, ◌/◌, ◌%◌, ◌^◌, ◌<◌, ◌≤◌}
use native.Mathlib.Nat.{add-mod_right, mod-add-mod, mod-lt}
use native.Mathlib.Omega.{arith}
use lib.ListN.{get_or}
use lib.Dec.{T, leb, leb→le}
use lib.IntN.{pos, neg_ℤ, nat_abs}
use lib.Signed.{lt_z, le_z, ◌<ℤ◌, ◌≤ℤ◌}
use Rattle.paper.proofs.Below.{below, below_at, eq_z, eq_z_eq}
use Rattle.paper.specs.Mesh.{most_sides}
use Rattle.paper.specs.Cosines.{unit, table, cosine, rest}
use Rattle.paper.specs.Claims.{TableRules}
use Rattle.numbers.specs.Stored.{stored}

-- ---- k is read modulo m
pub period : (m k : ℕ) → cosine m (k + m) ≡ cosine m k
unfolding cosine
period m k = rw add-mod_right

modulo : (m j k : ℕ) → cosine m (j % m + k) ≡ cosine m (j + k)
unfolding cosine
modulo m j k = rw mod-add-mod

modulo0 : (m j : ℕ) → cosine m (j % m) ≡ cosine m j
modulo0 m j = ap (cosine m) (plus_zero (j % m)) ∙ modulo m j 0 ∙ ap (cosine m) (sym (plus_zero j))
  where
    plus_zero : (k : ℕ) → k ≡ k + 0
    plus_zero k = omega arith

-- ---- the tests, at row a + 3
first_test : ℕ → Bool
first_test a = eq_z (cosine (a + 3) 0) (pos unit)

symmetric_at : ℕ → ℕ → Bool
symmetric_at m k = eq_z (cosine m k) (cosine m (m - k))

falls_at : ℕ → ℕ → Bool
falls_at m k = lt_z (cosine m (k + 1)) (cosine m k)

recurs_at : ℕ → ℕ → Bool
recurs_at m k = leb (nat_abs (rest m k)) (3 * unit)

size_at : ℕ → ℕ → Bool
size_at m k = leb (nat_abs (cosine m k)) unit

bottom_test : ℕ → Bool
bottom_test a = le_z (neg_ℤ (pos (2 ^ 29))) (cosine (a + 3) 1)

exact_at : ℕ → Bool
exact_at k = eq_z (rest 4 k) (pos 0)

stored_at_lem : ℕ → ℕ → Bool
stored_at_lem m k = eq_z (get_or (get_or stored (m - 3) []) k (pos 0)) (cosine m k)

-- a test of every entry that n names, over all rows
abbrev entries : (ℕ → ℕ → Bool) → (ℕ → ℕ) → ℕ → Bool
entries f n a = below (f (a + 3)) (n (a + 3))

module _ (m : ℕ) (low : 3 ≤ m) (high : m ≤ most_sides) where
  back : m - 3 + 3 ≡ m
  back = omega arith

  -- a test of all rows, at row m
  at_row : (f : ℕ → Bool) → T (below f (most_sides - 2)) → T (f (m - 3))
  at_row f t = below_at f (most_sides - 2) t (m - 3) (omega arith)

  -- and at an entry of it
  at_entry : (f : ℕ → ℕ → Bool) (n : ℕ → ℕ) → T (below (entries f n) (most_sides - 2)) → (k : ℕ) → k < n m → T (f m k)
  at_entry f n t k h =
      below_at (f m) (n m) (subst (λ (r : ℕ). T (below (f r) (n r))) back (at_row (entries f n) t)) k h

  first : cosine m 0 ≡ pos unit
  unfolding table cosine first_test
  first = eq_z_eq _ _ (subst (λ (r : ℕ). T (eq_z (cosine r 0) (pos unit))) back (at_row first_test tt))

  symmetric : (k : ℕ) → k ≤ m → cosine m k ≡ cosine m (m - k)
  unfolding table cosine symmetric_at
  symmetric k h = eq_z_eq _ _ (at_entry symmetric_at suc tt k (omega arith))

  falls : (k : ℕ) → k < m / 2 → cosine m (k + 1) <ℤ cosine m k
  unfolding table cosine falls_at
  falls k h = record { lt = at_entry falls_at (λ r. r / 2) tt k h }

  recurs_below : (k : ℕ) → k < m → nat_abs (rest m k) ≤ 3 * unit
  unfolding table cosine recurs_at
  recurs_below k h = leb→le _ _ (at_entry recurs_at (λ r. r) tt k h)

  recurs : (k : ℕ) → nat_abs (rest m k) ≤ 3 * unit
  recurs k = simp (modulo, modulo0) at (recurs_below (k % m) (mod-lt k (omega arith)))

  size_below : (k : ℕ) → k < m → nat_abs (cosine m k) ≤ unit
  unfolding table cosine size_at
  size_below k h = leb→le _ _ (at_entry size_at (λ r. r) tt k h)

  pub cosine_size : (k : ℕ) → nat_abs (cosine m k) ≤ unit
  cosine_size k = simp modulo0 at (size_below (k % m) (mod-lt k (omega arith)))

  -- no row falls below -1/2 at its second entry
  pub bottom : neg_ℤ (pos (2 ^ 29)) ≤ℤ cosine m 1
  unfolding table cosine bottom_test
  bottom = subst (λ (r : ℕ). neg_ℤ (pos (2 ^ 29)) ≤ℤ cosine r 1) back (record { le = at_row bottom_test tt })

  -- the code's array, at an entry of the row
  pub stored_is : (k : ℕ) → k < m → get_or (get_or stored (m - 3) []) k (pos 0) ≡ cosine m k
  unfolding table stored cosine stored_at_lem
  stored_is k h = eq_z_eq _ _ (at_entry stored_at_lem (λ r. r) tt k h)

pub rules : TableRules
rules m low high =
    record { first = first m low high; symmetric = symmetric m low high; falls = falls m low high; recurs = recurs m low high }

-- ---- row 4 is exact
exact_below : (k : ℕ) → k < 4 → rest 4 k ≡ pos 0
unfolding table cosine exact_at
exact_below k h = eq_z_eq _ _ (below_at exact_at 4 tt k h)

pub exact : (k : ℕ) → rest 4 k ≡ pos 0
exact k = simp (modulo, modulo0) at (exact_below (k % 4) (mod-lt k (omega arith)))

pub quarter : cosine 4 1 ≡ pos 0
unfolding table cosine
quarter = refl
