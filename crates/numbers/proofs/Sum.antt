-- Finite sums: equal and bounded term by term, and over a ring the same from wherever they start.
use mathlib.Core.Path.{◌≡◌, refl, ap, ◌∙◌}
use Prim.Native.Nat.{ℕ, zero, suc, ◌+◌, ◌*◌, ◌≤◌, ◌<◌}
use native.Mathlib.Numerals.{add-one}
use native.Mathlib.Omega.{arith}
use lib.IntN.{ℤ, pos, ◌+ℤ◌, ◌*ℤ◌, nat_abs}
use Rattle.paper.specs.Numbers.{sum, sum_by}
use Rattle.numbers.proofs.Poly.{over, poly}
use Rattle.numbers.proofs.Laws.{abs_add_le}

pub sum_zero : (f : ℕ → ℤ) → sum f 0 ≡ pos 0
unfolding sum_by
sum_zero f = refl

pub sum_suc : (f : ℕ → ℤ) (n : ℕ) → sum f (suc n) ≡ sum f n +ℤ f n
unfolding sum_by
sum_suc f n = refl

-- one more turn, as a loop counts
pub sum_more : (f : ℕ → ℤ) (n : ℕ) → sum f (n + 1) ≡ sum f n +ℤ f n
sum_more f n = rw add-one (sum_suc f n)

-- two functions that agree below n have one sum
pub sum_same : (f g : ℕ → ℤ) (n : ℕ) → ((j : ℕ) → j < n → f j ≡ g j) → sum f n ≡ sum g n
unfolding sum_by
sum_same f g zero h = refl
sum_same f g (suc n) h = cc (sum_same f g n (λ j l. h j (omega arith)), h n (omega arith))

-- a common factor
pub sum_times : (k : ℤ) (f : ℕ → ℤ) (n : ℕ) → sum (λ j. k *ℤ f j) n ≡ k *ℤ sum f n
unfolding sum_by
sum_times k f zero = none k
  where
    none : (k : ℤ) → pos 0 ≡ k *ℤ pos 0
    none = over 1 _ λ ρ. simp (poly, ρ) (omega arith)
sum_times k f (suc n) = more k (sum (λ j. k *ℤ f j) n) (sum f n) (f n) (sum_times k f n)
  where
    more : (k a s x : ℤ) → a ≡ k *ℤ s → a +ℤ k *ℤ x ≡ k *ℤ (s +ℤ x)
    more = over 4 _ λ ρ. simp poly (omega arith)

-- ---- sizes
pub sum_abs : (f : ℕ → ℤ) (n B : ℕ) → ((j : ℕ) → j < n → nat_abs (f j) ≤ B) → nat_abs (sum f n) ≤ n * B
unfolding sum_by
sum_abs f zero B h = omega arith
sum_abs f (suc n) B h =
    let r = abs_add_le (sum f n) (f n) (n * B) B (sum_abs f n B (λ j l. h j (omega arith))) (h n (omega arith)) in
    omega arith

-- ---- a sum over a cycle: one step along leaves it as it is
-- the sum from 1 is the sum from 0 with its ends changed
pub sum_shift : (f : ℕ → ℤ) (n : ℕ) → sum (λ j. f (j + 1)) n +ℤ f 0 ≡ sum f n +ℤ f n
unfolding sum_by
sum_shift f zero = refl
sum_shift f (suc n) = ends (sum (λ j. f (j + 1)) n) (f 0) (sum f n) (f n) (f (suc n)) (f (n + 1)) (sum_shift f n) (ap f (add-one n))
  where
    ends : (a z s x y y' : ℤ) → a +ℤ z ≡ s +ℤ x → y' ≡ y → (a +ℤ y') +ℤ z ≡ (s +ℤ x) +ℤ y
    ends = over 6 _ λ ρ. simp poly (omega arith)

pub add_cancel : (a b c : ℤ) → a +ℤ c ≡ b +ℤ c → a ≡ b
add_cancel = over 3 _ λ ρ. simp poly (omega arith)

-- g repeats after m
abbrev pub Cyclic : (ℕ → ℤ) → ℕ → Type 0
Cyclic g m = (j : ℕ) → g (j + m) ≡ g j

pub cycle_one : (g : ℕ → ℤ) (m : ℕ) → Cyclic g m → sum (λ j. g (j + 1)) m ≡ sum g m
cycle_one g m h = add_cancel (sum (λ j. g (j + 1)) m) (sum g m) (g 0) (sum_shift g m ∙ ap (λ (z : ℤ). sum g m +ℤ z) (ap g (zero_add' m) ∙ h 0))
  where
    zero_add' : (m : ℕ) → m ≡ 0 + m
    zero_add' m = omega arith

-- and so do k steps
pub cycle : (g : ℕ → ℤ) (m : ℕ) → Cyclic g m → (k : ℕ) → sum (λ j. g (j + k)) m ≡ sum g m
cycle g m h zero = sum_same (λ j. g (j + 0)) g m (λ j l. ap g (omega arith))
cycle g m h (suc k) =
    sum_same (λ j. g (j + suc k)) (λ j. g ((j + 1) + k)) m (λ j l. ap g (omega arith))
    ∙ cycle_one (λ j. g (j + k)) m (λ j. ap g (turn j k) ∙ h (j + k))
    ∙ cycle g m h k
  where
    turn : (j k : ℕ) → (j + m) + k ≡ (j + k) + m
    turn j k = omega arith
