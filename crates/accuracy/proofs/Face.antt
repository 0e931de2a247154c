-- Centre and face points of one refined face, from points that are off by at most half a tick.
use mathlib.Core.Path.{◌≡◌, refl, sym, ap, subst}
use Prim.Native.Nat.{ℕ, zero, suc, ◌+◌, ◌*◌, ◌≤◌}
use native.Mathlib.Omega.{arith}
use lib.IntN.{ℤ, pos, ◌+ℤ◌, ◌*ℤ◌, nat_abs}
use lib.Signed.{◌≤ℤ◌}
use Rattle.paper.specs.Mesh.{least_sides, most_sides}
use Rattle.paper.specs.Numbers.{sum, sum_by, rounded, Fraction, exact}
use Rattle.paper.specs.Cosines.{unit}
use Rattle.paper.specs.Face.{weight, centre, toward}
use Rattle.numbers.proofs.Diff.{diff}
use Rattle.surface.proofs.Sizes.{heavy}
use Rattle.accuracy.proofs.Close.{Close, close_times, close_over, close_sum}

-- ---- the sizes of a row's weights add up to at most 10/9 of the divisor (`heavy`, computed once over all rows)
spread : ℕ → ℕ
spread m = sum_by ◌+◌ 0 (λ k. nat_abs (weight m k)) m

times_each : (f : ℕ → ℕ) (e n : ℕ) → sum_by ◌+◌ 0 (λ k. f k * e) n ≡ sum_by ◌+◌ 0 f n * e
unfolding sum_by
times_each f e zero = omega arith
times_each f e (suc n) = let r = times_each f e n in omega arith

as_whole : (f : ℕ → ℕ) (n : ℕ) → pos (sum_by ◌+◌ 0 f n) ≡ sum (λ k. pos (f k)) n
unfolding sum_by
as_whole f zero = refl
as_whole f (suc n) = ap (λ (z : ℤ). z +ℤ pos (f n)) (as_whole f n)

light : (m : ℕ) → least_sides ≤ m → m ≤ most_sides → 3 * spread m ≤ 10 * unit * m
unfolding spread
light m low high =
    natural (spread m) m
    (subst (λ (z : ℤ). (pos 3 *ℤ z) ≤ℤ (pos (10 * unit) *ℤ pos m)) (sym (as_whole (λ k. nat_abs (weight m k)) m)) (heavy m low high))
  where
    natural : (a b : ℕ) → (pos 3 *ℤ pos a) ≤ℤ (pos (10 * unit) *ℤ pos b) → 3 * a ≤ 10 * unit * b
    natural a b h = let l = simp diff at h in omega arith

all_fifty : (n : ℕ) → sum_by ◌+◌ 0 (λ (k : ℕ). 50) n ≡ 50 * n
unfolding sum_by
all_fifty zero = refl
all_fifty (suc n) = omega (arith, all_fifty n)

-- ---- one refined face, its points off by 50
module _ (x : ℕ → ℤ) (q : ℕ → Fraction) (m : ℕ) (low : least_sides ≤ m) (high : m ≤ most_sides) (close : (j : ℕ) → Close 50 (x j) (q j)) where
  pub centre_close : Close 100 (centre rounded x m) (centre exact q m)
  unfolding centre
  centre_close = close_over m 100 (omega arith) (omega (arith, all_fifty m)) (close_sum (λ k. 50) x q m close)

  pub toward_close : (i : ℕ) → Close 106 (toward rounded x m i) (toward exact q m i)
  unfolding toward spread
  toward_close i =
      close_over (3 * unit * m) 106 (omega arith) (omega (arith, light m low high, times_each (λ k. nat_abs (weight m k)) 50 m))
      (close_sum (λ k. nat_abs (weight m k) * 50) (λ k. weight m k *ℤ x (i + k)) _ m
      (λ k. close_times (weight m k) (nat_abs (weight m k)) (omega arith) (close (i + k))))
