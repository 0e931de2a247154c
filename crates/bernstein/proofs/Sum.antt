-- The Bernstein sum of the definition, over whole numbers: what it is, between which bounds it lies, and what is left of it where a weight is zero.
use mathlib.Core.Path.{◌≡◌, sym, ap, ◌∙◌, subst}
use Prim.Native.Nat.{ℕ, zero, suc, ◌+◌, ◌-◌, ◌*◌, ◌/◌, ◌^◌, ◌≤◌, ◌<◌}
use native.Mathlib.Nat.{pow-zero, pow-suc}
use native.Mathlib.Omega.{arith}
use lib.IntN.{ℤ, pos, neg_ℤ, nat_abs, ◌+ℤ◌, ◌*ℤ◌}
use lib.Signed.{◌≤ℤ◌, ◌<ℤ◌}
use Rattle.paper.specs.Numbers.{sum, sum_by, round}
use Rattle.paper.specs.Net.{Side}
use Rattle.paper.specs.Sampling.{control, factorial, bernstein, bernstein_sum}
use Rattle.numbers.proofs.Poly.{over, poly}
use Rattle.numbers.proofs.Laws.{zero_add, mul_le, nonneg, le_antisym}
use Rattle.numbers.proofs.Sum.{sum_same}
use Rattle.bernstein.specs.declared.Matrix5.{Matrix5}
use Rattle.bernstein.specs.Sums.{vector5, linear, quadratic, cubic, quartic, quartic_sum, rows_of}
use Rattle.bernstein.proofs.Laws.{round_between, bounds_abs}

-- ---- a weight as a product
abbrev pub power : ℤ → ℕ → ℤ
power z zero = pos 1
power z (suc l) = power z l *ℤ z

pub power_is : (i l : ℕ) → pos (i ^ l) ≡ power (pos i) l
power_is i zero = ap pos (pow-zero i)
power_is i (suc l) = ap pos (pow-suc i l) ∙ ap (λ (z : ℤ). z *ℤ pos i) (power_is i l)

abbrev times : ℕ → ℕ → ℕ
times n m = factorial 4 / (factorial (4 - n - m) * factorial m * factorial n)

abbrev weight : ℤ → ℤ → ℤ → ℕ → ℕ → ℤ
weight i j k n m = pos (times n m) *ℤ (power i (4 - n - m) *ℤ power j m *ℤ power k n)

weight_is : (i j k n m : ℕ) → pos (bernstein i j k (4 - n - m) m n) ≡ weight (pos i) (pos j) (pos k) n m
unfolding bernstein
weight_is i j k n m =
    ap (λ (z : ℤ). pos (times n m) *ℤ (z *ℤ pos (j ^ m) *ℤ pos (k ^ n))) (power_is i (4 - n - m))
    ∙ ap (λ (z : ℤ). pos (times n m) *ℤ (power (pos i) (4 - n - m) *ℤ z *ℤ pos (k ^ n))) (power_is j m)
    ∙ ap (λ (z : ℤ). pos (times n m) *ℤ (power (pos i) (4 - n - m) *ℤ power (pos j) m *ℤ z)) (power_is k n)

-- ---- row by row
row0 : (i j k a b c d e : ℤ)
    → pos 0 +ℤ weight i j k 0 0 *ℤ a +ℤ weight i j k 0 1 *ℤ b +ℤ weight i j k 0 2 *ℤ c +ℤ weight i j k 0 3 *ℤ d +ℤ weight i j k 0 4 *ℤ e
    ≡ quartic (vector5 a b c d e) i j
row0 = over 8 _ λ ρ. simp (poly, ρ) (omega arith)

row1 : (i j k a b c d : ℤ)
    → pos 0 +ℤ weight i j k 1 0 *ℤ a +ℤ weight i j k 1 1 *ℤ b +ℤ weight i j k 1 2 *ℤ c +ℤ weight i j k 1 3 *ℤ d ≡ pos 4 *ℤ k *ℤ cubic a b c d i j
row1 = over 7 _ λ ρ. simp (poly, ρ) (omega arith)

row2 : (i j k a b c : ℤ) → pos 0 +ℤ weight i j k 2 0 *ℤ a +ℤ weight i j k 2 1 *ℤ b +ℤ weight i j k 2 2 *ℤ c ≡ pos 6 *ℤ k *ℤ k *ℤ quadratic a b c i j
row2 = over 6 _ λ ρ. simp (poly, ρ) (omega arith)

row3 : (i j k a b : ℤ) → pos 0 +ℤ weight i j k 3 0 *ℤ a +ℤ weight i j k 3 1 *ℤ b ≡ pos 4 *ℤ k *ℤ k *ℤ k *ℤ linear a b i j
row3 = over 5 _ λ ρ. simp (poly, ρ) (omega arith)

row4 : (i j k a : ℤ) → pos 0 +ℤ weight i j k 4 0 *ℤ a ≡ k *ℤ k *ℤ k *ℤ k *ℤ a
row4 = over 4 _ λ ρ. simp (poly, ρ) (omega arith)

vector5_rows : (r s t u v r' s' t' u' v' : ℤ) → r ≡ r' → s ≡ s' → t ≡ t' → u ≡ u' → v ≡ v'
    → pos 0 +ℤ r +ℤ s +ℤ t +ℤ u +ℤ v ≡ r' +ℤ s' +ℤ t' +ℤ u' +ℤ v'
vector5_rows r s t u v r' s' t' u' v' e f g h i = cc (zero_add r)

plain_sum : (P : ℕ → ℕ → ℤ) (i j k : ℤ) → sum (λ n. sum (λ m. weight i j k n m *ℤ P n m) (5 - n)) 5 ≡ quartic_sum (rows_of P) i j k
unfolding sum_by quartic_sum
plain_sum P i j k =
    vector5_rows _ _ _ _ _ _ _ _ _ _ (row0 i j k (P 0 0) (P 0 1) (P 0 2) (P 0 3) (P 0 4)) (row1 i j k (P 1 0) (P 1 1) (P 1 2) (P 1 3))
    (row2 i j k (P 2 0) (P 2 1) (P 2 2)) (row3 i j k (P 3 0) (P 3 1)) (row4 i j k (P 4 0))

-- the definition's sum of any control points
abbrev sum_of : (ℕ → ℕ → ℤ) → ℕ → ℕ → ℕ → ℤ
sum_of P i j k = sum (λ n. sum (λ m. pos (bernstein i j k (4 - n - m) m n) *ℤ P n m) (5 - n)) 5

sum_is : (P : ℕ → ℕ → ℤ) (i j k : ℕ) → sum_of P i j k ≡ quartic_sum (rows_of P) (pos i) (pos j) (pos k)
sum_is P i j k =
    sum_same _ _ 5 (λ n a. sum_same _ _ (5 - n) (λ m b. ap (λ (z : ℤ). z *ℤ P n m) (weight_is i j k n m))) ∙ plain_sum P (pos i) (pos j) (pos k)

pub bernstein_is : (p : ℕ → ℤ) (s : Side) (i j k : ℕ) → bernstein_sum p s i j k ≡ quartic_sum (rows_of (control p s)) (pos i) (pos j) (pos k)
unfolding bernstein_sum
bernstein_is p s i j k = sum_is (control p s) i j k

-- ---- bounds: the weights are not negative, and sum to N^4
add_le : (a b c d : ℤ) → a ≤ℤ b → c ≤ℤ d → (a +ℤ c) ≤ℤ (b +ℤ d)
add_le = over 4 _ λ ρ. simp poly (omega arith)

pub sum_le : (f g : ℕ → ℤ) (n : ℕ) → ((m : ℕ) → m < n → f m ≤ℤ g m) → sum f n ≤ℤ sum g n
unfolding sum_by
sum_le f g zero h = nonneg 0
sum_le f g (suc n) h = add_le (sum f n) (sum g n) (f n) (g n) (sum_le f g n (λ m l. h m (omega arith))) (h n (omega arith))

sums_le : (P Q : ℕ → ℕ → ℤ) (i j k : ℕ) → ((n m : ℕ) → n + m ≤ 4 → P n m ≤ℤ Q n m) → sum_of P i j k ≤ℤ sum_of Q i j k
sums_le P Q i j k h =
    sum_le _ _ 5 (λ n a. sum_le _ _ (5 - n) (λ m b. mul_le (pos (bernstein i j k (4 - n - m) m n)) (P n m) (Q n m) (nonneg _) (h n m (omega arith))))

same_points : (v i j k : ℤ) → quartic_sum (rows_of (λ n m. v)) i j k ≡ power (i +ℤ j +ℤ k) 4 *ℤ v
unfolding quartic_sum
same_points = over 4 _ λ ρ. simp (poly, ρ) (omega arith)

all_same : (v : ℤ) (i j k : ℕ) → sum_of (λ n m. v) i j k ≡ pos ((i + j + k) ^ 4) *ℤ v
all_same v i j k = sum_is (λ n m. v) i j k ∙ same_points v (pos i) (pos j) (pos k) ∙ ap (λ (z : ℤ). z *ℤ v) (sym (power_is (i + j + k) 4))

module _ (p : ℕ → ℤ) (s : Side) (i j k : ℕ) (low high : ℤ) (h : (n m : ℕ) → n + m ≤ 4 → (low ≤ℤ control p s n m) × (control p s n m ≤ℤ high)) where
  pub sum_from : (pos ((i + j + k) ^ 4) *ℤ low) ≤ℤ bernstein_sum p s i j k
  unfolding bernstein_sum
  sum_from = subst (λ (z : ℤ). z ≤ℤ sum_of (control p s) i j k) (all_same low i j k) (sums_le (λ n m. low) (control p s) i j k (λ n m l. (h n m l).0))

  pub sum_to : bernstein_sum p s i j k ≤ℤ (pos ((i + j + k) ^ 4) *ℤ high)
  unfolding bernstein_sum
  sum_to = subst (λ (z : ℤ). sum_of (control p s) i j k ≤ℤ z) (all_same high i j k) (sums_le (control p s) (λ n m. high) i j k (λ n m l. (h n m l).1))

-- a sum of numbers within B
pub less : (d b : ℤ) → d *ℤ neg_ℤ b ≡ neg_ℤ (b *ℤ d)
less = over 2 _ λ ρ. simp poly (omega arith)

pub more : (d b : ℤ) → d *ℤ b ≡ b *ℤ d
more = over 2 _ λ ρ. simp poly (omega arith)

pub sum_size : (p : ℕ → ℤ) (s : Side) (i j k B : ℕ)
    → ((n m : ℕ) → n + m ≤ 4 → (neg_ℤ (pos B) ≤ℤ control p s n m) × (control p s n m ≤ℤ pos B)) → nat_abs (bernstein_sum p s i j k) ≤ B * (i + j + k) ^ 4
sum_size p s i j k B h =
    bounds_abs (bernstein_sum p s i j k) (B * (i + j + k) ^ 4)
    (subst (λ (z : ℤ). z ≤ℤ bernstein_sum p s i j k) (less (pos ((i + j + k) ^ 4)) (pos B)) (sum_from p s i j k (neg_ℤ (pos B)) (pos B) h))
    (subst (λ (z : ℤ). bernstein_sum p s i j k ≤ℤ z) (more (pos ((i + j + k) ^ 4)) (pos B)) (sum_to p s i j k (neg_ℤ (pos B)) (pos B) h))

-- ---- where weights are zero
pub on_side : (p : Matrix5) (i j : ℤ) → quartic_sum p i j (pos 0) ≡ quartic p.r0 i j
unfolding quartic_sum
on_side p i j =
    side (quartic p.r0 i j) (cubic p.r1.a p.r1.b p.r1.c p.r1.d i j) (quadratic p.r2.a p.r2.b p.r2.c i j)
    (linear p.r3.a p.r3.b i j) p.r4.a
  where
    side : (a b c d e : ℤ)
        → a +ℤ pos 4 *ℤ pos 0 *ℤ b +ℤ pos 6 *ℤ pos 0 *ℤ pos 0 *ℤ c +ℤ pos 4 *ℤ pos 0 *ℤ pos 0 *ℤ pos 0 *ℤ d +ℤ pos 0 *ℤ pos 0 *ℤ pos 0 *ℤ pos 0 *ℤ e ≡ a
    side = over 5 _ λ ρ. simp (poly, ρ) (omega arith)

-- the first points of the rows, or the last ones, and the third weight
abbrev ray : ℤ → ℤ → ℤ → ℤ → ℤ → ℤ → ℤ → ℤ
ray a b c d e x k =
    x *ℤ x *ℤ x *ℤ x *ℤ a +ℤ pos 4 *ℤ k *ℤ (x *ℤ x *ℤ x *ℤ b) +ℤ pos 6 *ℤ k *ℤ k *ℤ (x *ℤ x *ℤ c) +ℤ pos 4 *ℤ k *ℤ k *ℤ k *ℤ (x *ℤ d)
    +ℤ k *ℤ k *ℤ k *ℤ k *ℤ e

head4 : (a b c d e x : ℤ) → quartic (vector5 a b c d e) x (pos 0) ≡ x *ℤ x *ℤ x *ℤ x *ℤ a
head4 = over 6 _ λ ρ. simp (poly, ρ) (omega arith)

head3 : (a b c d x : ℤ) → cubic a b c d x (pos 0) ≡ x *ℤ x *ℤ x *ℤ a
head3 = over 5 _ λ ρ. simp (poly, ρ) (omega arith)

head2 : (a b c x : ℤ) → quadratic a b c x (pos 0) ≡ x *ℤ x *ℤ a
head2 = over 4 _ λ ρ. simp (poly, ρ) (omega arith)

head1 : (a b x : ℤ) → linear a b x (pos 0) ≡ x *ℤ a
head1 = over 3 _ λ ρ. simp (poly, ρ) (omega arith)

tail4 : (a b c d e x : ℤ) → quartic (vector5 a b c d e) (pos 0) x ≡ x *ℤ x *ℤ x *ℤ x *ℤ e
tail4 = over 6 _ λ ρ. simp (poly, ρ) (omega arith)

tail3 : (a b c d x : ℤ) → cubic a b c d (pos 0) x ≡ x *ℤ x *ℤ x *ℤ d
tail3 = over 5 _ λ ρ. simp (poly, ρ) (omega arith)

tail2 : (a b c x : ℤ) → quadratic a b c (pos 0) x ≡ x *ℤ x *ℤ c
tail2 = over 4 _ λ ρ. simp (poly, ρ) (omega arith)

tail1 : (a b x : ℤ) → linear a b (pos 0) x ≡ x *ℤ b
tail1 = over 3 _ λ ρ. simp (poly, ρ) (omega arith)

pub from_head : (p : Matrix5) (i k : ℤ) → quartic_sum p i (pos 0) k ≡ ray p.r0.a p.r1.a p.r2.a p.r3.a p.r4.a i k
unfolding quartic_sum
from_head p i k =
    cc (
      head4 p.r0.a p.r0.b p.r0.c p.r0.d p.r0.e i,
      head3 p.r1.a p.r1.b p.r1.c p.r1.d i,
      head2 p.r2.a p.r2.b p.r2.c i,
      head1 p.r3.a p.r3.b i,
    )

pub from_tail : (p : Matrix5) (j k : ℤ) → quartic_sum p (pos 0) j k ≡ ray p.r0.e p.r1.d p.r2.c p.r3.b p.r4.a j k
unfolding quartic_sum
from_tail p j k =
    cc (
      tail4 p.r0.a p.r0.b p.r0.c p.r0.d p.r0.e j,
      tail3 p.r1.a p.r1.b p.r1.c p.r1.d j,
      tail2 p.r2.a p.r2.b p.r2.c j,
      tail1 p.r3.a p.r3.b j,
    )

-- one weight alone
ray_end : (a b c d e x : ℤ) → ray a b c d e x (pos 0) ≡ power x 4 *ℤ a
ray_end = over 6 _ λ ρ. simp (poly, ρ) (omega arith)

ray_centre : (a b c d e k : ℤ) → ray a b c d e (pos 0) k ≡ power k 4 *ℤ e
ray_centre = over 6 _ λ ρ. simp (poly, ρ) (omega arith)

module _ (p : Matrix5) (n : ℕ) where
  pub head_alone : quartic_sum p (pos n) (pos 0) (pos 0) ≡ pos (n ^ 4) *ℤ p.r0.a
  head_alone =
      from_head p (pos n) (pos 0) ∙ ray_end p.r0.a p.r1.a p.r2.a p.r3.a p.r4.a (pos n)
      ∙ ap (λ (z : ℤ). z *ℤ p.r0.a) (sym (power_is n 4))

  pub tail_alone : quartic_sum p (pos 0) (pos n) (pos 0) ≡ pos (n ^ 4) *ℤ p.r0.e
  tail_alone =
      from_tail p (pos n) (pos 0) ∙ ray_end p.r0.e p.r1.d p.r2.c p.r3.b p.r4.a (pos n)
      ∙ ap (λ (z : ℤ). z *ℤ p.r0.e) (sym (power_is n 4))

  pub centre_alone : quartic_sum p (pos 0) (pos 0) (pos n) ≡ pos (n ^ 4) *ℤ p.r4.a
  centre_alone =
      from_head p (pos 0) (pos n) ∙ ray_centre p.r0.a p.r1.a p.r2.a p.r3.a p.r4.a (pos n)
      ∙ ap (λ (z : ℤ). z *ℤ p.r4.a) (sym (power_is n 4))

-- a multiple is not changed by rounding
le_refl : (a : ℤ) → a ≤ℤ a
le_refl = over 1 _ λ ρ. simp poly (omega arith)

pub round_multiple : (d z : ℤ) → pos 0 <ℤ d → round (d *ℤ z) d ≡ z
round_multiple d z o =
    let b = round_between (d *ℤ z) d z z o (le_refl (d *ℤ z)) (le_refl (d *ℤ z)) in
    le_antisym (round (d *ℤ z) d) z b.1 b.0
