-- What negating an axis, or leaving it, does to numbers: it goes through sums, differences, multiples and r. One law for both, so that every
-- axis is treated at once.
use mathlib.Core.Path.{◌≡◌, refl}
use mathlib.Core.Bool.{Bool, true, false}
use Prim.Native.Nat.{ℕ}
use native.Mathlib.Omega.{arith}
use lib.IntN.{ℤ, pos, neg_ℤ, ◌+ℤ◌, ◌-ℤ◌, ◌*ℤ◌}
use Rattle.paper.specs.Numbers.{round}
use Rattle.paper.specs.Mirror.{negated_if}
use Rattle.numbers.proofs.Poly.{over, poly}
use Rattle.numbers.proofs.Nearest.{round_neg}

pub record Turn (σ : ℤ → ℤ) : Type 0 where
  pub none : σ (pos 0) ≡ pos 0
  pub plus : (a b : ℤ) → σ a +ℤ σ b ≡ σ (a +ℤ b)
  pub minus : (a b : ℤ) → σ a -ℤ σ b ≡ σ (a -ℤ b)
  pub times : (k a : ℤ) → k *ℤ σ a ≡ σ (k *ℤ a)
  pub rounds : (n : ℤ) (d : ℕ) → round (σ n) (pos d) ≡ σ (round n (pos d))

neg_plus : (a b : ℤ) → neg_ℤ a +ℤ neg_ℤ b ≡ neg_ℤ (a +ℤ b)
neg_plus = over 2 _ λ ρ. simp poly (omega arith)

neg_minus : (a b : ℤ) → neg_ℤ a -ℤ neg_ℤ b ≡ neg_ℤ (a -ℤ b)
neg_minus = over 2 _ λ ρ. simp poly (omega arith)

neg_times : (k a : ℤ) → k *ℤ neg_ℤ a ≡ neg_ℤ (k *ℤ a)
neg_times = over 2 _ λ ρ. simp poly (omega arith)

pub turn : (b : Bool) → Turn (negated_if b)
turn true = record { none = refl; plus = neg_plus; minus = neg_minus; times = neg_times; rounds = round_neg }
turn false = record { none = refl; plus = λ a b. refl; minus = λ a b. refl; times = λ k a. refl; rounds = λ n d. refl }
