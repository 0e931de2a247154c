-- A whole number beside a fraction that it stands for, and how far the two are apart, in hundredths of a tick. Sums, differences and multiples
-- add up what their parts are off, and a division rounds by at most half: one law for each thing that the construction does with numbers.
use Prim.Native.Nat.{ℕ, zero, suc, ◌+◌, ◌*◌, ◌<◌, ◌≤◌}
use native.Mathlib.Nat.{mul-le-mul}
use native.Mathlib.Omega.{arith}
use lib.IntN.{ℤ, pos, negsuc, ◌+ℤ◌, ◌-ℤ◌, ◌*ℤ◌, neg_ℤ, nat_abs}
use lib.Signed.{◌≤ℤ◌, ◌<ℤ◌}
use Rattle.numbers.proofs.Diff.{diff}
use Rattle.numbers.proofs.Poly.{over, poly}
use Rattle.numbers.proofs.Laws.{mul_le, nonneg}
use Rattle.paper.specs.Numbers.{round, sum, sum_by, Fraction, exact}
use Rattle.numbers.specs.WithinHalf.{WithinHalf}
use Rattle.numbers.proofs.Nearest.{round_within_half}
use Rattle.surface.proofs.Within.{Within, within_times, positive}
use Rattle.accuracy.specs.Rounding.{twice_off, OffByHalf}

-- the bottom of q is d; 100 (d x - top) lies between -e d and e d
pub record Close (e : ℕ) (x : ℤ) (q : Fraction) : Type 0 where
  pub proper : 0 < q.bottom
  pub off : Within (pos 100 *ℤ (pos q.bottom *ℤ x -ℤ q.top)) (pos e *ℤ pos q.bottom)

infixl 7 ◌·◌ ◌÷◌
infixl 6 ◌⊕◌ ◌⊖◌
open exact use {whole, ◌⊕◌, ◌⊖◌, ◌·◌, ◌÷◌}

product : (a b : ℕ) → 0 < a → 0 < b → 0 < a * b
product a b h l = omega (arith, mul-le-mul h l)

-- ---- a whole number is close to itself
itself : (x e : ℤ) → pos 0 ≤ℤ e → Within (pos 100 *ℤ (pos 1 *ℤ x -ℤ x)) (e *ℤ pos 1)
itself = over 2 _ λ ρ. simp (poly, ρ) (omega arith)

pub close_whole : (x : ℤ) → Close 0 x (whole x)
close_whole x = record { proper = omega arith; off = itself x (pos 0) (nonneg 0) }

-- ---- sum and difference: n and k over D and E
plus_core : (D E n k x y e f : ℤ) → Within (E *ℤ (pos 100 *ℤ (D *ℤ x -ℤ n))) (E *ℤ (e *ℤ D)) → Within (D *ℤ (pos 100 *ℤ (E *ℤ y -ℤ k))) (D *ℤ (f *ℤ E))
    → Within (pos 100 *ℤ (D *ℤ E *ℤ (x +ℤ y) -ℤ (n *ℤ E +ℤ k *ℤ D))) ((e +ℤ f) *ℤ (D *ℤ E))
plus_core = over 8 _ λ ρ. simp (poly, ρ) (omega arith)

minus_core : (D E n k x y e f : ℤ) → Within (E *ℤ (pos 100 *ℤ (D *ℤ x -ℤ n))) (E *ℤ (e *ℤ D)) → Within (D *ℤ (pos 100 *ℤ (E *ℤ y -ℤ k))) (D *ℤ (f *ℤ E))
    → Within (pos 100 *ℤ (D *ℤ E *ℤ (x -ℤ y) -ℤ (n *ℤ E -ℤ k *ℤ D))) ((e +ℤ f) *ℤ (D *ℤ E))
minus_core = over 8 _ λ ρ. simp (poly, ρ) (omega arith)

module _ {e f : ℕ} {x y : ℤ} {q r : Fraction} (h : Close e x q) (l : Close f y r) where
  left : Within (pos r.bottom *ℤ (pos 100 *ℤ (pos q.bottom *ℤ x -ℤ q.top))) (pos r.bottom *ℤ (pos e *ℤ pos q.bottom))
  left = within_times (pos r.bottom) (pos 100 *ℤ (pos q.bottom *ℤ x -ℤ q.top)) (pos e *ℤ pos q.bottom) (nonneg r.bottom) h.off

  right : Within (pos q.bottom *ℤ (pos 100 *ℤ (pos r.bottom *ℤ y -ℤ r.top))) (pos q.bottom *ℤ (pos f *ℤ pos r.bottom))
  right = within_times (pos q.bottom) (pos 100 *ℤ (pos r.bottom *ℤ y -ℤ r.top)) (pos f *ℤ pos r.bottom) (nonneg q.bottom) l.off

  pub close_plus : Close (e + f) (x +ℤ y) (q ⊕ r)
  close_plus = record {
    proper = product q.bottom r.bottom h.proper l.proper;
    off = plus_core (pos q.bottom) (pos r.bottom) q.top r.top x y (pos e) (pos f) left right;
  }

  pub close_minus : Close (e + f) (x -ℤ y) (q ⊖ r)
  close_minus = record {
    proper = product q.bottom r.bottom h.proper l.proper;
    off = minus_core (pos q.bottom) (pos r.bottom) q.top r.top x y (pos e) (pos f) left right;
  }

-- ---- a multiple, by a whole number of size up to k
stretch : (a k d z : ℤ) → Within (a *ℤ z) (a *ℤ d) → (d *ℤ a) ≤ℤ (d *ℤ k) → Within (a *ℤ z) (k *ℤ d)
stretch = over 4 _ λ ρ. simp poly (omega arith)

flip : (a k d z : ℤ) → Within (a *ℤ z) (a *ℤ d) → (d *ℤ a) ≤ℤ (d *ℤ k) → Within (neg_ℤ a *ℤ z) (k *ℤ d)
flip = over 4 _ λ ρ. simp poly (omega arith)

le_pos : (a b : ℕ) → a ≤ b → pos a ≤ℤ pos b
le_pos a b h = simp diff (omega arith)

within_multiple : (w z : ℤ) (k d : ℕ) → nat_abs w ≤ k → Within z (pos d) → Within (w *ℤ z) (pos k *ℤ pos d)
within_multiple (pos a) z k d h l =
    stretch (pos a) (pos k) (pos d) z (within_times (pos a) z (pos d) (nonneg a) l) (mul_le (pos d) (pos a) (pos k) (nonneg d) (le_pos a k h))
within_multiple (negsuc a) z k d h l =
    flip (pos (suc a)) (pos k) (pos d) z (within_times (pos (suc a)) z (pos d) (nonneg (suc a)) l)
    (mul_le (pos d) (pos (suc a)) (pos k) (nonneg d) (le_pos (suc a) k h))

times_core : (w D x n k d : ℤ) → Within (w *ℤ (pos 100 *ℤ (D *ℤ x -ℤ n))) (k *ℤ (d *ℤ D)) → Within (pos 100 *ℤ (D *ℤ (w *ℤ x) -ℤ w *ℤ n)) (k *ℤ d *ℤ D)
times_core = over 6 _ λ ρ. simp (poly, ρ) (omega arith)

pub close_times : {e : ℕ} {x : ℤ} {q : Fraction} (w : ℤ) (k : ℕ) → nat_abs w ≤ k → Close e x q → Close (k * e) (w *ℤ x) (w · q)
close_times {e} {x} {q} w k b h = record {
  proper = h.proper;
  off = times_core w (pos q.bottom) x q.top (pos k) (pos e)
      (within_multiple w (pos 100 *ℤ (pos q.bottom *ℤ x -ℤ q.top)) k (e * q.bottom) b h.off);
}

-- ---- a quotient: half a tick more
half : (x : ℤ) (m : ℕ) → 0 < m → OffByHalf x (pos m) (round x (pos m))
half x m some = plain x (pos m) (round x (pos m)) (positive m some) (round_within_half x (pos m) (positive m some))
  where
    plain : (n d q : ℤ) → pos 0 <ℤ d → WithinHalf n d q → OffByHalf n d q
    plain = over 3 _ λ ρ. simp (poly, ρ) (omega arith)

over_core : (D M x n Q e f : ℤ) → Within (pos 100 *ℤ (D *ℤ x -ℤ n)) (e *ℤ D) → Within (D *ℤ (pos 2 *ℤ (M *ℤ Q -ℤ x))) (D *ℤ twice_off M)
    → (D *ℤ (e +ℤ pos 50 *ℤ M)) ≤ℤ (D *ℤ (f *ℤ M)) → Within (pos 100 *ℤ (D *ℤ M *ℤ Q -ℤ n)) (f *ℤ (D *ℤ M))
over_core = over 7 _ λ ρ. simp (poly, ρ) (omega arith)

pub close_over : {e : ℕ} {x : ℤ} {q : Fraction} (m f : ℕ) → 0 < m → e + 50 * m ≤ f * m → Close e x q → Close f (round x (pos m)) (q ÷ m)
close_over {e} {x} {q} m f some b h = record {
  proper = product q.bottom m h.proper some;
  off = over_core (pos q.bottom) (pos m) x q.top (round x (pos m)) (pos e) (pos f) h.off
      (within_times (pos q.bottom) (pos 2 *ℤ (pos m *ℤ round x (pos m) -ℤ x)) (twice_off (pos m)) (nonneg q.bottom) (half x m some))
      (mul_le (pos q.bottom) (pos (e + 50 * m)) (pos (f * m)) (nonneg q.bottom) (le_pos (e + 50 * m) (f * m) b));
}

-- ---- a sum of many, each off by as much as its error says
pub close_sum : (e : ℕ → ℕ) (x : ℕ → ℤ) (q : ℕ → Fraction) (n : ℕ) → ((k : ℕ) → Close (e k) (x k) (q k))
    → Close (sum_by ◌+◌ 0 e n) (sum x n) (sum_by ◌⊕◌ (whole (pos 0)) q n)
unfolding sum_by
close_sum e x q zero h = close_whole (pos 0)
close_sum e x q (suc n) h = close_plus (close_sum e x q n h) (h n)
