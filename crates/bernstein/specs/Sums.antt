-- The quartic Bernstein sum as the code has it: over whole numbers, then as a polynomial in the second and third weight whose coefficients come from
-- differences of the control points, then by steps of differences from one weight to the next.
use Rattle.std.specs.Prelude.{ℕ, ◌+◌, ◌*◌, ◌^◌, ◌≤◌, ℤ, pos, nat_abs, ◌+ℤ◌, ◌-ℤ◌, ◌*ℤ◌}
use Rattle.bernstein.specs.declared.Vector5.{Vector5}
use Rattle.bernstein.specs.declared.Matrix5.{Matrix5}

abbrev pub vector5 : ℤ → ℤ → ℤ → ℤ → ℤ → Vector5
vector5 a b c d e = record { a = a; b = b; c = c; d = d; e = e }

-- what f makes of each row, and of each row of two matrices
abbrev pub each_row : (Vector5 → Vector5) → Matrix5 → Matrix5
each_row f p = record { r0 = f p.r0; r1 = f p.r1; r2 = f p.r2; r3 = f p.r3; r4 = f p.r4 }

abbrev pub both_rows : (Vector5 → Vector5 → Vector5) → Matrix5 → Matrix5 → Matrix5
both_rows f p q = record { r0 = f p.r0 q.r0; r1 = f p.r1 q.r1; r2 = f p.r2 q.r2; r3 = f p.r3 q.r3; r4 = f p.r4 q.r4 }

-- ---- sums over two weights x and y, of degree one to four
abbrev pub linear : ℤ → ℤ → ℤ → ℤ → ℤ
linear a b x y = x *ℤ a +ℤ y *ℤ b

abbrev pub quadratic : ℤ → ℤ → ℤ → ℤ → ℤ → ℤ
quadratic a b c x y = x *ℤ x *ℤ a +ℤ pos 2 *ℤ x *ℤ y *ℤ b +ℤ y *ℤ y *ℤ c

abbrev pub cubic : ℤ → ℤ → ℤ → ℤ → ℤ → ℤ → ℤ
cubic a b c d x y = x *ℤ x *ℤ x *ℤ a +ℤ pos 3 *ℤ x *ℤ x *ℤ y *ℤ b +ℤ pos 3 *ℤ x *ℤ y *ℤ y *ℤ c +ℤ y *ℤ y *ℤ y *ℤ d

abbrev pub quartic : Vector5 → ℤ → ℤ → ℤ
quartic v x y =
    x *ℤ x *ℤ x *ℤ x *ℤ v.a +ℤ pos 4 *ℤ x *ℤ x *ℤ x *ℤ y *ℤ v.b +ℤ pos 6 *ℤ x *ℤ x *ℤ y *ℤ y *ℤ v.c +ℤ pos 4 *ℤ x *ℤ y *ℤ y *ℤ y *ℤ v.d
    +ℤ y *ℤ y *ℤ y *ℤ y *ℤ v.e

-- the sum over three weights, of control points in rows; a row has zeros after its points
unfoldable pub quartic_sum : Matrix5 → ℤ → ℤ → ℤ → ℤ
quartic_sum p i j k =
    quartic p.r0 i j
    +ℤ pos 4 *ℤ k *ℤ cubic p.r1.a p.r1.b p.r1.c p.r1.d i j
    +ℤ pos 6 *ℤ k *ℤ k *ℤ quadratic p.r2.a p.r2.b p.r2.c i j
    +ℤ pos 4 *ℤ k *ℤ k *ℤ k *ℤ linear p.r3.a p.r3.b i j
    +ℤ k *ℤ k *ℤ k *ℤ k *ℤ p.r4.a

abbrev pub rows_of : (ℕ → ℕ → ℤ) → Matrix5
rows_of P = record {
  r0 = vector5 (P 0 0) (P 0 1) (P 0 2) (P 0 3) (P 0 4);
  r1 = vector5 (P 1 0) (P 1 1) (P 1 2) (P 1 3) (pos 0);
  r2 = vector5 (P 2 0) (P 2 1) (P 2 2) (pos 0) (pos 0);
  r3 = vector5 (P 3 0) (P 3 1) (pos 0) (pos 0) (pos 0);
  r4 = vector5 (P 4 0) (pos 0) (pos 0) (pos 0) (pos 0);
}

-- ---- the differences of five numbers, from the first to the fourth
unfoldable pub differences_of : Vector5 → Vector5
differences_of v =
    vector5 v.a (v.b -ℤ v.a) (v.c -ℤ v.b -ℤ (v.b -ℤ v.a)) (v.d -ℤ v.c -ℤ (v.c -ℤ v.b) -ℤ (v.c -ℤ v.b -ℤ (v.b -ℤ v.a)))
    (v.e -ℤ v.d -ℤ (v.d -ℤ v.c) -ℤ (v.d -ℤ v.c -ℤ (v.c -ℤ v.b))
    -ℤ (v.d -ℤ v.c -ℤ (v.c -ℤ v.b) -ℤ (v.c -ℤ v.b -ℤ (v.b -ℤ v.a))))

-- five numbers, each times its weight
unfoldable pub weighted_of : Vector5 → Vector5 → Vector5
weighted_of v w = vector5 (v.a *ℤ w.a) (v.b *ℤ w.b) (v.c *ℤ w.c) (v.d *ℤ w.d) (v.e *ℤ w.e)

-- ---- the polynomial: row p has the coefficients of j^p, by powers of k
unfoldable pub weights_of : ℤ → Matrix5
weights_of n = record {
  r0 = vector5 (n *ℤ n *ℤ n *ℤ n) (pos 4 *ℤ (n *ℤ n *ℤ n)) (pos 6 *ℤ (n *ℤ n)) (pos 4 *ℤ n) (pos 1);
  r1 = vector5 (pos 4 *ℤ (n *ℤ n *ℤ n)) (pos 12 *ℤ (n *ℤ n)) (pos 12 *ℤ n) (pos 4) (pos 0);
  r2 = vector5 (pos 6 *ℤ (n *ℤ n)) (pos 12 *ℤ n) (pos 6) (pos 0) (pos 0);
  r3 = vector5 (pos 4 *ℤ n) (pos 4) (pos 0) (pos 0) (pos 0);
  r4 = vector5 (pos 1) (pos 0) (pos 0) (pos 0) (pos 0);
}

-- the differences of each row, and column p of what they are
unfoldable pub slopes_of : Matrix5 → Matrix5
slopes_of = each_row differences_of

unfoldable pub columns_of : Matrix5 → Matrix5
columns_of d = record {
  r0 = vector5 d.r0.a d.r1.a d.r2.a d.r3.a d.r4.a;
  r1 = vector5 d.r0.b d.r1.b d.r2.b d.r3.b (pos 0);
  r2 = vector5 d.r0.c d.r1.c d.r2.c (pos 0) (pos 0);
  r3 = vector5 d.r0.d d.r1.d (pos 0) (pos 0) (pos 0);
  r4 = vector5 d.r0.e (pos 0) (pos 0) (pos 0) (pos 0);
}

unfoldable pub scaled_of : Matrix5 → Matrix5 → Matrix5
scaled_of = both_rows weighted_of

unfoldable pub polynomial_of : Matrix5 → ℤ → Matrix5
polynomial_of p n = scaled_of (slopes_of (columns_of (slopes_of p))) (weights_of n)

-- ---- a polynomial of degree four at x, and its differences there
unfoldable pub polynomial_at : Vector5 → ℕ → ℤ
polynomial_at f x = f.a +ℤ pos x *ℤ (f.b +ℤ pos x *ℤ (f.c +ℤ pos x *ℤ (f.d +ℤ pos x *ℤ f.e)))

unfoldable pub state_of : Vector5 → ℕ → Vector5
state_of f x =
    vector5 (polynomial_at f x)
    (f.b +ℤ f.c *ℤ pos (2 * x + 1) +ℤ f.d *ℤ pos (3 * (x * x) + 3 * x + 1) +ℤ f.e *ℤ pos (4 * (x * x * x) + 6 * (x * x) + 4 * x + 1))
    (pos 2 *ℤ f.c +ℤ f.d *ℤ pos (6 * x + 6) +ℤ f.e *ℤ pos (12 * (x * x) + 24 * x + 14))
    (pos 6 *ℤ f.d +ℤ f.e *ℤ pos (24 * x + 36))
    (pos 24 *ℤ f.e)

-- the state at the next place
unfoldable pub step_of : Vector5 → Vector5
step_of g = vector5 (g.a +ℤ g.b) (g.b +ℤ g.c) (g.c +ℤ g.d) (g.d +ℤ g.e) g.e

unfoldable pub steps_of : Matrix5 → Matrix5
steps_of = each_row step_of

-- of five polynomials
unfoldable pub states_of : Matrix5 → ℕ → Matrix5
states_of c k = each_row (λ f. state_of f k) c

-- the values of five states
unfoldable pub firsts_of : Matrix5 → Vector5
firsts_of s = vector5 s.r0.a s.r1.a s.r2.a s.r3.a s.r4.a

-- the polynomial in the second weight alone, for the third weight k
unfoldable pub row_of : Matrix5 → ℕ → Vector5
row_of c k = vector5 (polynomial_at c.r0 k) (polynomial_at c.r1 k) (polynomial_at c.r2 k) (polynomial_at c.r3 k) (polynomial_at c.r4 k)

-- ---- sizes
-- five numbers within B
abbrev pub Sized : ℕ → Vector5 → Type 0
Sized B v = (nat_abs v.a ≤ B) × (nat_abs v.b ≤ B) × (nat_abs v.c ≤ B) × (nat_abs v.d ≤ B) × (nat_abs v.e ≤ B)

abbrev pub AllSized : ℕ → Matrix5 → Type 0
AllSized B p = Sized B p.r0 × Sized B p.r1 × Sized B p.r2 × Sized B p.r3 × Sized B p.r4

-- coefficients that fall by sixteen from power to power, so that at weights up to 16 each term is within 65,536 A
abbrev pub Tapered : ℕ → Vector5 → Type 0
Tapered A f =
    (nat_abs f.a ≤ 65536 * A) × (nat_abs f.b ≤ 4096 * A) × (nat_abs f.c ≤ 256 * A) × (nat_abs f.d ≤ 16 * A) × (nat_abs f.e ≤ A)

pub record AllTapered (c : Matrix5) : Type 0 where
  pub t0 : Tapered (2 ^ 34) c.r0
  pub t1 : Tapered (2 ^ 30) c.r1
  pub t2 : Tapered (2 ^ 26) c.r2
  pub t3 : Tapered (2 ^ 22) c.r3
  pub t4 : Tapered (2 ^ 18) c.r4
