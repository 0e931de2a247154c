-- The largest of values below a bound.
use mathlib.Core.Path.{◌≡◌, refl}
use Prim.Native.Nat.{ℕ, zero, suc, ◌<◌, ◌≤◌}
use native.Mathlib.Omega.{arith}
use Rattle.paper.specs.Report.{largest_below}

pub largest_same : (n : ℕ) (f g : ℕ → ℕ) → ((i : ℕ) → i < n → f i ≡ g i) → largest_below n f ≡ largest_below n g
unfolding largest_below
largest_same zero f g h = refl
largest_same (suc n) f g h = rw (largest_same n f g (λ i l. h i (omega arith)), h n (omega arith))

pub largest_within : (n k : ℕ) (f : ℕ → ℕ) → ((i : ℕ) → i < n → f i ≤ k) → largest_below n f ≤ k
unfolding largest_below
largest_within zero k f h = omega arith
largest_within (suc n) k f h = omega (arith, largest_within n k f (λ i l. h i (omega arith)), h n (omega arith))
