-- The derivatives of the polynomial that the code evaluates are the tangents' sums.
use mathlib.Core.Path.{◌≡◌, refl, sym, ap, ◌∙◌}
use Prim.Native.Nat.{ℕ, ◌+◌, ◌-◌, ◌*◌, ◌/◌, ◌^◌}
use native.Mathlib.Omega.{arith}
use lib.IntN.{ℤ, pos, ◌+ℤ◌, ◌-ℤ◌, ◌*ℤ◌}
use Rattle.paper.specs.Numbers.{sum_by}
use Rattle.paper.specs.Net.{Side}
use Rattle.paper.specs.Sampling.{control, factorial}
use Rattle.paper.specs.Tangents as tangents
use Rattle.numbers.proofs.Poly.{over, poly}
use Rattle.numbers.proofs.Laws.{zero_add}
use Rattle.numbers.proofs.Sum.{sum_same}
use Rattle.bernstein.specs.declared.Matrix5.{Matrix5}
use Rattle.bernstein.specs.Sums.{linear, quadratic, cubic, rows_of, differences_of, slopes_of, columns_of, weighted_of, scaled_of, weights_of}
use Rattle.bernstein.specs.Sums.{polynomial_of, polynomial_at, row_of}
use Rattle.bernstein.specs.Tangents.{along_rows, inward_rows, cubic_sum, times_of, along_of, slope_of, inward_of}
use Rattle.bernstein.proofs.Identity.{linear_turn, quadratic_turn, cubic_turn, weigh1}
use Rattle.bernstein.proofs.Sum.{power, power_is}

-- ---- a sum of ten differences, by rows and by columns
module _ (M j k : ℤ) where
  abbrev by_rows : Matrix5 → ℤ
  by_rows d =
      cubic d.r0.a d.r0.b d.r0.c d.r0.d M j +ℤ pos 3 *ℤ k *ℤ quadratic d.r1.a d.r1.b d.r1.c M j
      +ℤ pos 3 *ℤ k *ℤ k *ℤ linear d.r2.a d.r2.b M j +ℤ k *ℤ k *ℤ k *ℤ d.r3.a

  abbrev by_columns : Matrix5 → ℤ
  by_columns c =
      cubic c.r0.a c.r0.b c.r0.c c.r0.d M k +ℤ pos 3 *ℤ j *ℤ quadratic c.r1.a c.r1.b c.r1.c M k
      +ℤ pos 3 *ℤ j *ℤ j *ℤ linear c.r2.a c.r2.b M k +ℤ j *ℤ j *ℤ j *ℤ c.r3.a

regroup : (d00 d01 d02 d03 d10 d11 d12 d20 d21 d30 M j k : ℤ)
    → cubic d00 d01 d02 d03 M j +ℤ pos 3 *ℤ k *ℤ quadratic d10 d11 d12 M j +ℤ pos 3 *ℤ k *ℤ k *ℤ linear d20 d21 M j +ℤ k *ℤ k *ℤ k *ℤ d30
    ≡ cubic d00 d10 d20 d30 M k +ℤ pos 3 *ℤ j *ℤ quadratic d01 d11 d21 M k +ℤ pos 3 *ℤ j *ℤ j *ℤ linear d02 d12 M k +ℤ j *ℤ j *ℤ j *ℤ d03
regroup = over 13 _ λ ρ. simp (poly, ρ) (omega arith)

turn_rows : (d : Matrix5) (i j k : ℤ) → cubic_sum d i j k ≡ by_rows (i +ℤ j) j k (slopes_of d)
unfolding cubic_sum slopes_of differences_of
turn_rows d i j k =
    cc (
      cubic_turn d.r0.a d.r0.b d.r0.c d.r0.d i j,
      quadratic_turn d.r1.a d.r1.b d.r1.c i j,
      linear_turn d.r2.a d.r2.b i j,
    )

turn_columns : (d : Matrix5) (M j k : ℤ) → by_rows M j k d ≡ by_columns M j k (columns_of d)
unfolding columns_of
turn_columns d M j k =
    regroup d.r0.a d.r0.b d.r0.c d.r0.d d.r1.a d.r1.b d.r1.c d.r2.a d.r2.b d.r3.a M j k

turn_all : (c : Matrix5) (M j k : ℤ) → by_columns M j k c ≡ by_columns (M +ℤ k) j k (slopes_of c)
unfolding slopes_of differences_of
turn_all c M j k =
    cc (
      cubic_turn c.r0.a c.r0.b c.r0.c c.r0.d M k,
      quadratic_turn c.r1.a c.r1.b c.r1.c M k,
      linear_turn c.r2.a c.r2.b M k,
    )

cubic_by_columns : (d : Matrix5) (i j k : ℕ)
    → cubic_sum d (pos i) (pos j) (pos k) ≡ by_columns (pos (i + j + k)) (pos j) (pos k) (slopes_of (columns_of (slopes_of d)))
cubic_by_columns d i j k =
    turn_rows d (pos i) (pos j) (pos k) ∙ turn_columns (slopes_of d) (pos (i + j)) (pos j) (pos k)
    ∙ turn_all (columns_of (slopes_of d)) (pos (i + j)) (pos j) (pos k)

-- ---- by the second weight
twice : (a b c d e n x : ℤ)
    → pos 2 *ℤ (a *ℤ (pos 6 *ℤ (n *ℤ n)))
    +ℤ x *ℤ (pos 2 *ℤ (b *ℤ (pos 12 *ℤ n)) +ℤ x *ℤ (pos 2 *ℤ (c *ℤ pos 6) +ℤ x *ℤ (pos 2 *ℤ (d *ℤ pos 0) +ℤ x *ℤ (pos 2 *ℤ (e *ℤ pos 0)))))
    ≡ pos 12 *ℤ quadratic a b c n x
twice = over 7 _ λ ρ. simp (poly, ρ) (omega arith)

thrice : (a b c d e n x : ℤ)
    → pos 3 *ℤ (a *ℤ (pos 4 *ℤ n)) +ℤ x *ℤ (pos 3 *ℤ (b *ℤ pos 4) +ℤ x *ℤ (pos 3 *ℤ (c *ℤ pos 0) +ℤ x *ℤ (pos 3 *ℤ (d *ℤ pos 0) +ℤ x *ℤ (pos 3 *ℤ (e *ℤ pos 0)))))
    ≡ pos 12 *ℤ linear a b n x
thrice = over 7 _ λ ρ. simp (poly, ρ) (omega arith)

four_times : (a b c d e x : ℤ)
    → pos 4 *ℤ (a *ℤ pos 1) +ℤ x *ℤ (pos 4 *ℤ (b *ℤ pos 0) +ℤ x *ℤ (pos 4 *ℤ (c *ℤ pos 0) +ℤ x *ℤ (pos 4 *ℤ (d *ℤ pos 0) +ℤ x *ℤ (pos 4 *ℤ (e *ℤ pos 0)))))
    ≡ pos 4 *ℤ a
four_times = over 6 _ λ ρ. simp (poly, ρ) (omega arith)

nothing : (x : ℤ) → pos 0 +ℤ x *ℤ (pos 0 +ℤ x *ℤ (pos 0 +ℤ x *ℤ (pos 0 +ℤ x *ℤ pos 0))) ≡ pos 0
nothing = over 1 _ λ ρ. simp (poly, ρ) (omega arith)

outside : (a b c d j : ℤ)
    → pos 4 *ℤ a +ℤ j *ℤ (pos 12 *ℤ b +ℤ j *ℤ (pos 12 *ℤ c +ℤ j *ℤ (pos 4 *ℤ d +ℤ j *ℤ pos 0)))
    ≡ pos 4 *ℤ (a +ℤ pos 3 *ℤ j *ℤ b +ℤ pos 3 *ℤ j *ℤ j *ℤ c +ℤ j *ℤ j *ℤ j *ℤ d)
outside = over 5 _ λ ρ. simp (poly, ρ) (omega arith)

along_weighed : (g : Matrix5) (n : ℤ) (j k : ℕ)
    → polynomial_at (row_of (along_of (scaled_of g (weights_of n))) k) j
    ≡ pos 4 *ℤ (cubic g.r1.a g.r1.b g.r1.c g.r1.d n (pos k) +ℤ pos 3 *ℤ pos j *ℤ quadratic g.r2.a g.r2.b g.r2.c n (pos k)
    +ℤ pos 3 *ℤ pos j *ℤ pos j *ℤ linear g.r3.a g.r3.b n (pos k) +ℤ pos j *ℤ pos j *ℤ pos j *ℤ g.r4.a)
unfolding polynomial_at row_of along_of times_of scaled_of weighted_of weights_of
along_weighed g n j k =
    cc (
      weigh1 g.r1.a g.r1.b g.r1.c g.r1.d g.r1.e n (pos k),
      twice g.r2.a g.r2.b g.r2.c g.r2.d g.r2.e n (pos k),
      thrice g.r3.a g.r3.b g.r3.c g.r3.d g.r3.e n (pos k),
      four_times g.r4.a g.r4.b g.r4.c g.r4.d g.r4.e (pos k),
      nothing (pos k),
      outside (cubic g.r1.a g.r1.b g.r1.c g.r1.d n (pos k)) (quadratic g.r2.a g.r2.b g.r2.c n (pos k))
          (linear g.r3.a g.r3.b n (pos k)) g.r4.a (pos j),
    )

along_columns : (p : Matrix5) (M j k : ℤ)
    → by_columns M j k (slopes_of (columns_of (slopes_of (along_rows p))))
    ≡ (let g = slopes_of (columns_of (slopes_of p)) in
    cubic g.r1.a g.r1.b g.r1.c g.r1.d M k +ℤ pos 3 *ℤ j *ℤ quadratic g.r2.a g.r2.b g.r2.c M k
    +ℤ pos 3 *ℤ j *ℤ j *ℤ linear g.r3.a g.r3.b M k +ℤ j *ℤ j *ℤ j *ℤ g.r4.a)
unfolding slopes_of columns_of differences_of along_rows
along_columns p M j k = refl

pub along_is : (p : Matrix5) (i j k : ℕ)
    → polynomial_at (row_of (along_of (polynomial_of p (pos (i + j + k)))) k) j ≡ pos 4 *ℤ cubic_sum (along_rows p) (pos i) (pos j) (pos k)
unfolding polynomial_of
along_is p i j k =
    along_weighed (slopes_of (columns_of (slopes_of p))) (pos (i + j + k)) j k
    ∙ ap (λ (z : ℤ). pos 4 *ℤ z) (sym (cubic_by_columns (along_rows p) i j k ∙ along_columns p (pos (i + j + k)) (pos j) (pos k)))

-- ---- by the third weight
slope0 : (a b c d e n x : ℤ)
    → b *ℤ (pos 4 *ℤ (n *ℤ n *ℤ n)) +ℤ x *ℤ (pos 2 *ℤ (c *ℤ (pos 6 *ℤ (n *ℤ n))) +ℤ x *ℤ (pos 3 *ℤ (d *ℤ (pos 4 *ℤ n)) +ℤ x *ℤ (pos 4 *ℤ (e *ℤ pos 1) +ℤ x *ℤ pos 0)))
    ≡ pos 4 *ℤ cubic b c d e n x
slope0 = over 7 _ λ ρ. simp (poly, ρ) (omega arith)

slope1 : (a b c d e n x : ℤ)
    → b *ℤ (pos 12 *ℤ (n *ℤ n)) +ℤ x *ℤ (pos 2 *ℤ (c *ℤ (pos 12 *ℤ n)) +ℤ x *ℤ (pos 3 *ℤ (d *ℤ pos 4) +ℤ x *ℤ (pos 4 *ℤ (e *ℤ pos 0) +ℤ x *ℤ pos 0)))
    ≡ pos 12 *ℤ quadratic b c d n x
slope1 = over 7 _ λ ρ. simp (poly, ρ) (omega arith)

slope2 : (a b c d e n x : ℤ)
    → b *ℤ (pos 12 *ℤ n) +ℤ x *ℤ (pos 2 *ℤ (c *ℤ pos 6) +ℤ x *ℤ (pos 3 *ℤ (d *ℤ pos 0) +ℤ x *ℤ (pos 4 *ℤ (e *ℤ pos 0) +ℤ x *ℤ pos 0)))
    ≡ pos 12 *ℤ linear b c n x
slope2 = over 7 _ λ ρ. simp (poly, ρ) (omega arith)

slope3 : (b c d e x : ℤ)
    → b *ℤ pos 4 +ℤ x *ℤ (pos 2 *ℤ (c *ℤ pos 0) +ℤ x *ℤ (pos 3 *ℤ (d *ℤ pos 0) +ℤ x *ℤ (pos 4 *ℤ (e *ℤ pos 0) +ℤ x *ℤ pos 0))) ≡ pos 4 *ℤ b
slope3 = over 5 _ λ ρ. simp (poly, ρ) (omega arith)

slope4 : (b c d e x : ℤ)
    → b *ℤ pos 0 +ℤ x *ℤ (pos 2 *ℤ (c *ℤ pos 0) +ℤ x *ℤ (pos 3 *ℤ (d *ℤ pos 0) +ℤ x *ℤ (pos 4 *ℤ (e *ℤ pos 0) +ℤ x *ℤ pos 0))) ≡ pos 0
slope4 = over 5 _ λ ρ. simp (poly, ρ) (omega arith)

inward_weighed : (g : Matrix5) (n : ℤ) (j k : ℕ)
    → polynomial_at (row_of (inward_of (scaled_of g (weights_of n))) k) j
    ≡ pos 4 *ℤ (cubic g.r0.b g.r0.c g.r0.d g.r0.e n (pos k) +ℤ pos 3 *ℤ pos j *ℤ quadratic g.r1.b g.r1.c g.r1.d n (pos k)
    +ℤ pos 3 *ℤ pos j *ℤ pos j *ℤ linear g.r2.b g.r2.c n (pos k) +ℤ pos j *ℤ pos j *ℤ pos j *ℤ g.r3.b)
unfolding polynomial_at row_of inward_of slope_of scaled_of weighted_of weights_of
inward_weighed g n j k =
    cc (
      slope0 g.r0.a g.r0.b g.r0.c g.r0.d g.r0.e n (pos k),
      slope1 g.r1.a g.r1.b g.r1.c g.r1.d g.r1.e n (pos k),
      slope2 g.r2.a g.r2.b g.r2.c g.r2.d g.r2.e n (pos k),
      slope3 g.r3.b g.r3.c g.r3.d g.r3.e (pos k),
      slope4 g.r4.b g.r4.c g.r4.d g.r4.e (pos k),
      outside (cubic g.r0.b g.r0.c g.r0.d g.r0.e n (pos k)) (quadratic g.r1.b g.r1.c g.r1.d n (pos k))
          (linear g.r2.b g.r2.c n (pos k)) g.r3.b (pos j),
    )

-- the differences of differences between rows are the differences between rows of differences
swap1 : (a b c d : ℤ) → b -ℤ d -ℤ (a -ℤ c) ≡ b -ℤ a -ℤ (d -ℤ c)
swap1 = over 4 _ λ ρ. simp (poly, ρ) (omega arith)

swap2 : (a b c d e f : ℤ) → c -ℤ f -ℤ (b -ℤ e) -ℤ (b -ℤ e -ℤ (a -ℤ d)) ≡ c -ℤ b -ℤ (b -ℤ a) -ℤ (f -ℤ e -ℤ (e -ℤ d))
swap2 = over 6 _ λ ρ. simp (poly, ρ) (omega arith)

swap3 : (a b c d e f g h : ℤ)
    → d -ℤ h -ℤ (c -ℤ g) -ℤ (c -ℤ g -ℤ (b -ℤ f)) -ℤ (c -ℤ g -ℤ (b -ℤ f) -ℤ (b -ℤ f -ℤ (a -ℤ e)))
    ≡ d -ℤ c -ℤ (c -ℤ b) -ℤ (c -ℤ b -ℤ (b -ℤ a)) -ℤ (h -ℤ g -ℤ (g -ℤ f) -ℤ (g -ℤ f -ℤ (f -ℤ e)))
swap3 = over 8 _ λ ρ. simp (poly, ρ) (omega arith)

swapped : (p : Matrix5) (M j k : ℤ) → by_rows M j k (slopes_of (inward_rows p)) ≡ by_rows M j k (inward_rows (slopes_of p))
unfolding slopes_of differences_of inward_rows
swapped p M j k =
    cc (
      swap1 p.r1.a p.r1.b p.r0.a p.r0.b,
      swap2 p.r1.a p.r1.b p.r1.c p.r0.a p.r0.b p.r0.c,
      swap3 p.r1.a p.r1.b p.r1.c p.r1.d p.r0.a p.r0.b p.r0.c p.r0.d,
      swap1 p.r2.a p.r2.b p.r1.a p.r1.b,
      swap2 p.r2.a p.r2.b p.r2.c p.r1.a p.r1.b p.r1.c,
      swap1 p.r3.a p.r3.b p.r2.a p.r2.b,
    )

inward_columns : (d : Matrix5) (M j k : ℤ)
    → by_columns M j k (slopes_of (columns_of (inward_rows d)))
    ≡ (let g = slopes_of (columns_of d) in
    cubic g.r0.b g.r0.c g.r0.d g.r0.e M k +ℤ pos 3 *ℤ j *ℤ quadratic g.r1.b g.r1.c g.r1.d M k
    +ℤ pos 3 *ℤ j *ℤ j *ℤ linear g.r2.b g.r2.c M k +ℤ j *ℤ j *ℤ j *ℤ g.r3.b)
unfolding slopes_of columns_of differences_of inward_rows
inward_columns d M j k = refl

pub inward_is : (p : Matrix5) (i j k : ℕ)
    → polynomial_at (row_of (inward_of (polynomial_of p (pos (i + j + k)))) k) j ≡ pos 4 *ℤ cubic_sum (inward_rows p) (pos i) (pos j) (pos k)
unfolding polynomial_of
inward_is p i j k =
    inward_weighed (slopes_of (columns_of (slopes_of p))) (pos (i + j + k)) j k
    ∙ ap (λ (z : ℤ). pos 4 *ℤ z)
    (sym (turn_rows (inward_rows p) (pos i) (pos j) (pos k) ∙ swapped p (pos (i + j)) (pos j) (pos k)
    ∙ turn_columns (inward_rows (slopes_of p)) (pos (i + j)) (pos j) (pos k)
    ∙ turn_all (columns_of (inward_rows (slopes_of p))) (pos (i + j)) (pos j) (pos k)
    ∙ inward_columns (slopes_of p) (pos (i + j + k)) (pos j) (pos k)))

-- ---- the sums of the definition
abbrev times : ℕ → ℕ → ℕ
times n m = factorial 3 / (factorial (3 - n - m) * factorial m * factorial n)

abbrev weight : ℤ → ℤ → ℤ → ℕ → ℕ → ℤ
weight i j k n m = pos (times n m) *ℤ (power i (3 - n - m) *ℤ power j m *ℤ power k n)

weight_is : (i j k n m : ℕ) → pos (tangents.cubic_bernstein i j k (3 - n - m) m n) ≡ weight (pos i) (pos j) (pos k) n m
unfolding tangents.cubic_bernstein
weight_is i j k n m =
    ap (λ (z : ℤ). pos (times n m) *ℤ (z *ℤ pos (j ^ m) *ℤ pos (k ^ n))) (power_is i (3 - n - m))
    ∙ ap (λ (z : ℤ). pos (times n m) *ℤ (power (pos i) (3 - n - m) *ℤ z *ℤ pos (k ^ n))) (power_is j m)
    ∙ ap (λ (z : ℤ). pos (times n m) *ℤ (power (pos i) (3 - n - m) *ℤ power (pos j) m *ℤ z)) (power_is k n)

row0 : (i j k a b c d : ℤ)
    → pos 0 +ℤ weight i j k 0 0 *ℤ a +ℤ weight i j k 0 1 *ℤ b +ℤ weight i j k 0 2 *ℤ c +ℤ weight i j k 0 3 *ℤ d ≡ cubic a b c d i j
row0 = over 7 _ λ ρ. simp (poly, ρ) (omega arith)

row1 : (i j k a b c : ℤ) → pos 0 +ℤ weight i j k 1 0 *ℤ a +ℤ weight i j k 1 1 *ℤ b +ℤ weight i j k 1 2 *ℤ c ≡ pos 3 *ℤ k *ℤ quadratic a b c i j
row1 = over 6 _ λ ρ. simp (poly, ρ) (omega arith)

row2 : (i j k a b : ℤ) → pos 0 +ℤ weight i j k 2 0 *ℤ a +ℤ weight i j k 2 1 *ℤ b ≡ pos 3 *ℤ k *ℤ k *ℤ linear a b i j
row2 = over 5 _ λ ρ. simp (poly, ρ) (omega arith)

row3 : (i j k a : ℤ) → pos 0 +ℤ weight i j k 3 0 *ℤ a ≡ k *ℤ k *ℤ k *ℤ a
row3 = over 4 _ λ ρ. simp (poly, ρ) (omega arith)

four_rows : (r s t u r' s' t' u' : ℤ) → r ≡ r' → s ≡ s' → t ≡ t' → u ≡ u' → pos 0 +ℤ r +ℤ s +ℤ t +ℤ u ≡ r' +ℤ s' +ℤ t' +ℤ u'
four_rows r s t u r' s' t' u' e f g h = cc (zero_add r)

pub sum_is : (D : ℕ → ℕ → ℤ) (i j k : ℕ)
    → tangents.cubic_bernstein_sum D i j k
    ≡ cubic (D 0 0) (D 0 1) (D 0 2) (D 0 3) (pos i) (pos j) +ℤ pos 3 *ℤ pos k *ℤ quadratic (D 1 0) (D 1 1) (D 1 2) (pos i) (pos j)
    +ℤ pos 3 *ℤ pos k *ℤ pos k *ℤ linear (D 2 0) (D 2 1) (pos i) (pos j) +ℤ pos k *ℤ pos k *ℤ pos k *ℤ D 3 0
unfolding tangents.cubic_bernstein_sum sum_by
sum_is D i j k =
    sum_same _ _ 4 (λ n a. sum_same _ _ (4 - n) (λ m b. ap (λ (z : ℤ). z *ℤ D n m) (weight_is i j k n m)))
    ∙ four_rows _ _ _ _ _ _ _ _ (row0 (pos i) (pos j) (pos k) (D 0 0) (D 0 1) (D 0 2) (D 0 3)) (row1 (pos i) (pos j) (pos k) (D 1 0) (D 1 1) (D 1 2))
    (row2 (pos i) (pos j) (pos k) (D 2 0) (D 2 1)) (row3 (pos i) (pos j) (pos k) (D 3 0))

module _ (p : ℕ → ℤ) (s : Side) (i j k : ℕ) where
  pub along_sum : tangents.cubic_bernstein_sum (tangents.along p s) i j k ≡ cubic_sum (along_rows (rows_of (control p s))) (pos i) (pos j) (pos k)
  unfolding cubic_sum along_rows tangents.along
  along_sum = sum_is (tangents.along p s) i j k

  pub inward_sum : tangents.cubic_bernstein_sum (tangents.inward p s) i j k ≡ cubic_sum (inward_rows (rows_of (control p s))) (pos i) (pos j) (pos k)
  unfolding cubic_sum inward_rows tangents.inward
  inward_sum = sum_is (tangents.inward p s) i j k
