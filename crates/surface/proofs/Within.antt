-- Bounds on both sides of zero: multiplied by a number that is not negative, divided by a positive one, and from sizes.
use Prim.Native.Nat.{ℕ, ◌*◌, ◌<◌, ◌≤◌}
use native.Mathlib.Omega.{arith}
use lib.IntN.{ℤ, pos, ◌+ℤ◌, ◌*ℤ◌, neg_ℤ, nat_abs}
use lib.Signed.{◌<ℤ◌, ◌≤ℤ◌}
use Rattle.numbers.proofs.Diff.{as_diff, diff}
use Rattle.numbers.proofs.Poly.{over, poly}
use Rattle.numbers.proofs.Laws.{mul_le}
use Rattle.numbers.proofs.Floor.{step_le}

-- b lies between -d and d
abbrev pub Within : ℤ → ℤ → Type 0
Within b d = (neg_ℤ d ≤ℤ b) × (b ≤ℤ d)

pub within_times : (a b d : ℤ) → pos 0 ≤ℤ a → Within b d → Within (a *ℤ b) (a *ℤ d)
within_times a b d h l = (low a b d (mul_le a (neg_ℤ d) b h l.0), mul_le a b d h l.1)
  where
    low : (a b d : ℤ) → (a *ℤ neg_ℤ d) ≤ℤ (a *ℤ b) → neg_ℤ (a *ℤ d) ≤ℤ (a *ℤ b)
    low = over 3 _ λ ρ. simp poly (omega arith)

cancel : (m a b : ℤ) → pos 0 <ℤ m → (m *ℤ a) ≤ℤ (m *ℤ b) → a ≤ℤ b
cancel m a b h l = step_le m a b h (less m a b h l)
  where
    less : (m a b : ℤ) → pos 0 <ℤ m → (m *ℤ a) ≤ℤ (m *ℤ b) → (m *ℤ a) <ℤ (m *ℤ b +ℤ m)
    less = over 3 _ λ ρ. simp (poly, ρ) (omega arith)

pub within_cancel : (m b d : ℤ) → pos 0 <ℤ m → Within (m *ℤ b) (m *ℤ d) → Within b d
within_cancel m b d h l = (cancel m (neg_ℤ d) b h (low m b d l.0), cancel m b d h l.1)
  where
    low : (m b d : ℤ) → neg_ℤ (m *ℤ d) ≤ℤ (m *ℤ b) → (m *ℤ neg_ℤ d) ≤ℤ (m *ℤ b)
    low = over 3 _ λ ρ. simp poly (omega arith)

-- a size m·k, as the bounds of a multiple of m
pub abs_within : (b : ℤ) (m k : ℕ) → nat_abs b ≤ m * k → Within b (pos m *ℤ pos k)
abs_within b m k h = as_diff b λ x y e. let l = simp (diff, e) at h in simp (diff, e) (omega arith)

pub positive : (m : ℕ) → 0 < m → pos 0 <ℤ pos m
positive m h = simp diff (omega arith)
