-- The few laws of ℤ that are cited by name: order, products and sizes. What else is wanted is one line where it is wanted, by `poly`.
use mathlib.Core.Path.{◌≡◌, refl, sym, subst}
use Prim.Native.Nat.{ℕ, zero, suc, ◌+◌, ◌*◌, ◌≤◌}
use native.Mathlib.Nat.{mul-le-mul, mul-le-mul_left}
use native.Mathlib.Omega.{arith}
use lib.IntN.{ℤ, pos, negsuc, neg_ℤ, ◌+ℤ◌, ◌*ℤ◌, nat_abs}
use mathlib.Core.Logic.{◌⊎◌, inl, inr}
use mathlib.Core.Bool.{Bool, true, false, not}
use lib.Dec.{T}
use lib.Signed.{◌≤ℤ◌, ◌<ℤ◌, lt_z, lt_z_yes, lt_z_no}
use Rattle.numbers.proofs.Diff.{as_diff, diff}
use Rattle.numbers.proofs.Poly.{over, poly}

pub add_comm : (a b : ℤ) → a +ℤ b ≡ b +ℤ a
add_comm = over 2 _ λ ρ. simp poly (omega arith)

pub mul_comm : (a b : ℤ) → a *ℤ b ≡ b *ℤ a
mul_comm = over 2 _ λ ρ. simp poly (omega arith)

pub zero_add : (a : ℤ) → pos 0 +ℤ a ≡ a
zero_add = over 1 _ λ ρ. simp (poly, ρ) (omega arith)

pub le_antisym : (a b : ℤ) → a ≤ℤ b → b ≤ℤ a → a ≡ b
le_antisym = over 2 _ λ ρ. simp poly (omega arith)

pub lt_of_le_of_lt : (a b c : ℤ) → a ≤ℤ b → b <ℤ c → a <ℤ c
lt_of_le_of_lt = over 3 _ λ ρ. simp poly (omega arith)

-- ---- products and the order
-- 0 ≤ c and a ≤ b give c·a ≤ c·b
pub mul_le : (c a b : ℤ) → pos 0 ≤ℤ c → a ≤ℤ b → (c *ℤ a) ≤ℤ (c *ℤ b)
mul_le (pos c) a b h k = as_diff a λ p n ea. as_diff b λ q m eb.
    let k' = simp (diff, ea, eb) at k in
    let l = mul-le-mul_left c k' in
    simp (diff, ea, eb) (omega arith)
mul_le (negsuc c) a b h k = absurd h.le

pub nonneg : (n : ℕ) → pos 0 ≤ℤ pos n
nonneg n = simp diff (omega arith)

-- ---- sizes
pub nat_abs_neg : (n : ℕ) → nat_abs (neg_ℤ (pos n)) ≡ n
nat_abs_neg zero = refl
nat_abs_neg (suc n) = refl

pub abs_mul : (a b : ℤ) → nat_abs (a *ℤ b) ≡ nat_abs a * nat_abs b
abs_mul (pos a) (pos b) = refl
abs_mul (pos a) (negsuc b) = nat_abs_neg (a * suc b)
abs_mul (negsuc a) (pos b) = nat_abs_neg (suc a * b)
abs_mul (negsuc a) (negsuc b) = refl

pub abs_mul_le : (a b : ℤ) (j k : ℕ) → nat_abs a ≤ j → nat_abs b ≤ k → nat_abs (a *ℤ b) ≤ j * k
abs_mul_le a b j k h l = rw abs_mul (mul-le-mul h l)

pub abs_add_le : (a b : ℤ) (j k : ℕ) → nat_abs a ≤ j → nat_abs b ≤ k → nat_abs (a +ℤ b) ≤ j + k
abs_add_le a b j k = as_diff a λ p n ea. as_diff b λ q m eb. simp (diff, ea, eb) (omega arith)

-- ---- cases
pub lt_or_ge : (a b : ℤ) → (a <ℤ b) ⊎ (b ≤ℤ a)
lt_or_ge a b = go (lt_z a b) refl
  where
    go : (t : Bool) → lt_z a b ≡ t → (a <ℤ b) ⊎ (b ≤ℤ a)
    go true e = inl (lt_z_yes (subst T (sym e) tt))
    go false e = inr (lt_z_no (subst (λ (t : Bool). T (not t)) (sym e) tt))
