-- Laws of scans.
use mathlib.Core.Path.{◌≡◌, refl, ◌∙◌, sym}
use mathlib.Core.Bool.{Bool, true, false, ◌&&◌, true≢false}
use mathlib.Core.Logic.{◌⊎◌, inl, inr, ⊎_elim}
use Prim.Native.Nat.{ℕ, zero, suc, ◌+◌, ◌<◌, ◌≤◌}
use native.Mathlib.Omega.{arith}
use native.Mathlib.Nat.{eq-or-lt_of_le}
use lib.Dec.{ltb, eqb}
use borrow.Author.Tests.{ltb-true, ltb-false, lt-ltb, le-ltb, eqb-true, eqb-false}
use Rattle.paper.specs.Scan.{first_from, first_below, some_below}

-- a test's two ways
pub ways : (b : Bool) → (b ≡ true) ⊎ (b ≡ false)
ways true = inl refl
ways false = inr refl

pub clash : {b : Bool} → b ≡ true → b ≡ false → ⊥
clash p q = true≢false (sym p ∙ q)

pub and_true : (a b : Bool) → a ≡ true → b ≡ true → a && b ≡ true
and_true a b p q = rw (p, q)

pub and_left : (a b : Bool) → a && b ≡ true → a ≡ true
and_left true b h = refl
and_left false b h = h

pub and_right : (a b : Bool) → a && b ≡ true → b ≡ true
and_right true b h = h
and_right false b h = absurd (true≢false (sym h))

-- below, at or above
pub compared : (a b : ℕ) → (a ≡ b) ⊎ ((a < b) ⊎ (b < a))
compared a b = ⊎_elim (λ e. inl (eqb-true a b e))
    (λ e. inr (⊎_elim (λ l. inl (ltb-true a b l)) (λ l. inr (apart a b (eqb-false a b e) (ltb-false a b l))) (ways (ltb a b)))) (ways (eqb a b))
  where
    apart : (a b : ℕ) → (a ≡ b → ⊥) → b ≤ a → b < a
    apart a b n h = omega (arith, n)

module _ (f : ℕ → Bool) where
  from_hit : (at left : ℕ) → f at ≡ true → first_from f at (suc left) ≡ at
  unfolding first_from
  from_hit at left e = rw e

  from_miss : (at left : ℕ) → f at ≡ false → first_from f at (suc left) ≡ first_from f (suc at) left
  unfolding first_from
  from_miss at left e = rw e

  from_none : (at : ℕ) → first_from f at zero ≡ at
  unfolding first_from
  from_none at = refl

  from_le : (at left : ℕ) → first_from f at left ≤ at + left
  from_le at zero = omega (arith, from_none at)
  from_le at (suc left) =
      ⊎_elim (λ e. omega (arith, from_hit at left e)) (λ e. omega (arith, from_miss at left e, from_le (suc at) left)) (ways (f at))

  from_all : (at left : ℕ) → ((j : ℕ) → at ≤ j → j < at + left → f j ≡ false) → first_from f at left ≡ at + left
  from_all at zero h = omega (arith, from_none at)
  from_all at (suc left) h =
      omega (arith, from_miss at left (h at (omega arith) (omega arith)), from_all (suc at) left (λ j a b. h j (omega arith) (omega arith)))

  from_passes : (at left : ℕ) → first_from f at left < at + left → f (first_from f at left) ≡ true
  from_passes at zero h = absurd (omega (arith, from_none at))
  from_passes at (suc left) h =
      ⊎_elim
      (λ e. rw (from_hit at left e) e)
      (λ e. rw (from_miss at left e) (from_passes (suc at) left (omega (arith, from_miss at left e))))
      (ways (f at))

  from_fails : (at left j : ℕ) → at ≤ j → j < first_from f at left → f j ≡ false
  from_fails at zero j a h = absurd (omega (arith, from_none at))
  from_fails at (suc left) j a h =
      ⊎_elim
      (λ e. absurd (omega (arith, from_hit at left e)))
      (λ e. ⊎_elim (λ q. rw (← q) e) (λ l. from_fails (suc at) left j l (omega (arith, from_miss at left e))) (eq-or-lt_of_le a))
      (ways (f at))

module _ (n : ℕ) (f : ℕ → Bool) where
  pub first_le_all : first_below n f ≤ n
  unfolding first_below
  first_le_all = omega (arith, from_le f 0 n)

  -- no number below n passes
  pub first_none : ((j : ℕ) → j < n → f j ≡ false) → first_below n f ≡ n
  unfolding first_below
  first_none h = omega (arith, from_all f 0 n (λ j a b. h j (omega arith)))

  pub first_passes : first_below n f < n → f (first_below n f) ≡ true
  unfolding first_below
  first_passes h = from_passes f 0 n (omega arith)

  pub first_fails : (j : ℕ) → j < first_below n f → f j ≡ false
  unfolding first_below
  first_fails j h = from_fails f 0 n j (omega arith) h

  pub first_le : (i : ℕ) → f i ≡ true → first_below n f ≤ i
  first_le i e = ⊎_elim (λ l. absurd (clash e (first_fails i (ltb-true _ _ l)))) (λ l. ltb-false _ _ l) (ways (ltb i (first_below n f)))

  -- i passes and nothing lower does
  pub first_at : (i : ℕ) → i < n → f i ≡ true → ((j : ℕ) → j < i → f j ≡ false) → first_below n f ≡ i
  first_at i h e lower =
      ⊎_elim
      (λ l. absurd (clash (first_passes (omega (arith, ltb-true (first_below n f) i l))) (lower (first_below n f) (ltb-true _ _ l))))
      (λ l. omega (arith, ltb-false (first_below n f) i l, first_le i e))
      (ways (ltb (first_below n f) i))

  pub some_true : (i : ℕ) → i < n → f i ≡ true → some_below n f ≡ true
  unfolding some_below
  some_true i h e = lt-ltb (first_below n f) n (omega (arith, first_le i e))

  pub some_false : ((j : ℕ) → j < n → f j ≡ false) → some_below n f ≡ false
  unfolding some_below
  some_false h = le-ltb (first_below n f) n (omega (arith, first_none h))

  pub some_below_lem : some_below n f ≡ true → first_below n f < n
  unfolding some_below
  some_below_lem e = ltb-true _ _ e

  pub some_passes : some_below n f ≡ true → f (first_below n f) ≡ true
  some_passes e = first_passes (some_below_lem e)

  pub none : some_below n f ≡ false → (j : ℕ) → j < n → f j ≡ false
  unfolding some_below
  none e j h = first_fails j (omega (arith, ltb-false (first_below n f) n e))

-- one more number that fails
pub fails_step : (f : ℕ → Bool) (c : ℕ) → ((j : ℕ) → j < c → f j ≡ false) → f c ≡ false → (j : ℕ) → j < c + 1 → f j ≡ false
fails_step f c h e j l =
    let b : j ≤ c = omega arith in ⊎_elim (λ q. rw q e) (h j) (eq-or-lt_of_le b)

-- no value up to i is above a number that bounds those before it, and the one there
pub all_below_step : (f : ℕ → ℕ) (i m r : ℕ) → ((j : ℕ) → j < i → f j ≤ m) → m ≤ r → f i ≤ r → (j : ℕ) → j < i + 1 → f j ≤ r
all_below_step f i m r before grown here j h =
    let b : j ≤ i = omega arith in ⊎_elim (λ q. rw q here) (λ l. omega (arith, before j l)) (eq-or-lt_of_le b)
