-- The polynomial that the code evaluates is the Bernstein sum: differences of the rows turn the first weight into the sum of the first two, those of the
-- columns turn that into the sum of all three.
use mathlib.Core.Path.{◌≡◌, refl, sym, ◌∙◌}
use Prim.Native.Nat.{ℕ, ◌+◌}
use native.Mathlib.Omega.{arith}
use lib.IntN.{ℤ, pos, ◌+ℤ◌, ◌-ℤ◌, ◌*ℤ◌}
use Rattle.numbers.proofs.Poly.{over, poly}
use Rattle.bernstein.specs.declared.Vector5.{Vector5}
use Rattle.bernstein.specs.declared.Matrix5.{Matrix5}
use Rattle.bernstein.specs.Sums.{vector5, linear, quadratic, cubic, quartic, quartic_sum}
use Rattle.bernstein.specs.Sums.{differences_of, slopes_of, columns_of, weighted_of, scaled_of, weights_of}
use Rattle.bernstein.specs.Sums.{polynomial_of, polynomial_at, state_of, states_of, step_of, steps_of, row_of, firsts_of}

-- ---- one more weight in the first: x + y for x
pub linear_turn : (a b x y : ℤ) → linear a b x y ≡ linear a (b -ℤ a) (x +ℤ y) y
linear_turn = over 4 _ λ ρ. simp poly (omega arith)

pub quadratic_turn : (a b c x y : ℤ) → quadratic a b c x y ≡ quadratic a (b -ℤ a) (c -ℤ b -ℤ (b -ℤ a)) (x +ℤ y) y
quadratic_turn = over 5 _ λ ρ. simp (poly, ρ) (omega arith)

pub cubic_turn : (a b c d x y : ℤ)
    → cubic a b c d x y ≡ cubic a (b -ℤ a) (c -ℤ b -ℤ (b -ℤ a)) (d -ℤ c -ℤ (c -ℤ b) -ℤ (c -ℤ b -ℤ (b -ℤ a))) (x +ℤ y) y
cubic_turn = over 6 _ λ ρ. simp (poly, ρ) (omega arith)

quartic_turn' : (a b c d e x y : ℤ)
    → quartic (vector5 a b c d e) x y
    ≡ quartic
    (vector5 a (b -ℤ a) (c -ℤ b -ℤ (b -ℤ a)) (d -ℤ c -ℤ (c -ℤ b) -ℤ (c -ℤ b -ℤ (b -ℤ a)))
    (e -ℤ d -ℤ (d -ℤ c) -ℤ (d -ℤ c -ℤ (c -ℤ b)) -ℤ (d -ℤ c -ℤ (c -ℤ b) -ℤ (c -ℤ b -ℤ (b -ℤ a))))) (x +ℤ y) y
quartic_turn' = over 7 _ λ ρ. simp (poly, ρ) (omega arith)

-- ---- a state, and the next one
start_is : (a b c d e : ℤ)
    → (a ≡ a +ℤ pos 0 *ℤ (b +ℤ pos 0 *ℤ (c +ℤ pos 0 *ℤ (d +ℤ pos 0 *ℤ e))))
    × (b +ℤ c +ℤ d +ℤ e ≡ b +ℤ c *ℤ pos 1 +ℤ d *ℤ pos 1 +ℤ e *ℤ pos 1)
    × (pos 2 *ℤ c +ℤ pos 6 *ℤ d +ℤ pos 14 *ℤ e ≡ pos 2 *ℤ c +ℤ d *ℤ pos 6 +ℤ e *ℤ pos 14)
    × (pos 6 *ℤ d +ℤ pos 36 *ℤ e ≡ pos 6 *ℤ d +ℤ e *ℤ pos 36)
start_is = over 5 _ λ ρ. simp (poly, ρ) (omega arith)

-- the differences of a value at x + 1, with every number as it is in whole numbers
module _ where
  abbrev value : ℤ → ℤ → ℤ → ℤ → ℤ → ℤ → ℤ
  value a b c d e x = a +ℤ x *ℤ (b +ℤ x *ℤ (c +ℤ x *ℤ (d +ℤ x *ℤ e)))

  abbrev first : ℤ → ℤ → ℤ → ℤ → ℤ → ℤ
  first b c d e x =
      b +ℤ c *ℤ (pos 2 *ℤ x +ℤ pos 1) +ℤ d *ℤ (pos 3 *ℤ (x *ℤ x) +ℤ pos 3 *ℤ x +ℤ pos 1)
      +ℤ e *ℤ (pos 4 *ℤ (x *ℤ x *ℤ x) +ℤ pos 6 *ℤ (x *ℤ x) +ℤ pos 4 *ℤ x +ℤ pos 1)

  abbrev second : ℤ → ℤ → ℤ → ℤ → ℤ
  second c d e x = pos 2 *ℤ c +ℤ d *ℤ (pos 6 *ℤ x +ℤ pos 6) +ℤ e *ℤ (pos 12 *ℤ (x *ℤ x) +ℤ pos 24 *ℤ x +ℤ pos 14)

  abbrev third : ℤ → ℤ → ℤ → ℤ
  third d e x = pos 6 *ℤ d +ℤ e *ℤ (pos 24 *ℤ x +ℤ pos 36)

step_value : (a b c d e x : ℤ) → value a b c d e x +ℤ first b c d e x ≡ value a b c d e (x +ℤ pos 1)
step_value = over 6 _ λ ρ. simp (poly, ρ) (omega arith)

step_first : (b c d e x : ℤ) → first b c d e x +ℤ second c d e x ≡ first b c d e (x +ℤ pos 1)
step_first = over 5 _ λ ρ. simp (poly, ρ) (omega arith)

step_second : (c d e x : ℤ) → second c d e x +ℤ third d e x ≡ second c d e (x +ℤ pos 1)
step_second = over 4 _ λ ρ. simp (poly, ρ) (omega arith)

step_third : (d e x : ℤ) → third d e x +ℤ pos 24 *ℤ e ≡ third d e (x +ℤ pos 1)
step_third = over 3 _ λ ρ. simp (poly, ρ) (omega arith)

pub vector5_same : {a b c d e a' b' c' d' e' : ℤ} → a ≡ a' → b ≡ b' → c ≡ c' → d ≡ d' → e ≡ e' → vector5 a b c d e ≡ vector5 a' b' c' d' e'
vector5_same p q r s t = cc

pub state_step : (f : Vector5) (x : ℕ) → step_of (state_of f x) ≡ state_of f (x + 1)
unfolding step_of state_of polynomial_at
state_step f x =
    vector5_same (step_value f.a f.b f.c f.d f.e (pos x)) (step_first f.b f.c f.d f.e (pos x))
    (step_second f.c f.d f.e (pos x)) (step_third f.d f.e (pos x)) refl

pub state_start : (f : Vector5)
    → vector5 f.a (f.b +ℤ f.c +ℤ f.d +ℤ f.e) (pos 2 *ℤ f.c +ℤ pos 6 *ℤ f.d +ℤ pos 14 *ℤ f.e) (pos 6 *ℤ f.d +ℤ pos 36 *ℤ f.e) (pos 24 *ℤ f.e)
    ≡ state_of f 0
unfolding state_of polynomial_at
state_start f = let e = start_is f.a f.b f.c f.d f.e in vector5_same e.0 e.1 e.2 e.3 refl

-- ---- by powers of the second weight instead of the third; the rows' differences stand for the columns'
module _ (M j k : ℤ) where
  abbrev by_rows : Matrix5 → ℤ
  by_rows d =
      quartic d.r0 M j +ℤ pos 4 *ℤ k *ℤ cubic d.r1.a d.r1.b d.r1.c d.r1.d M j
      +ℤ pos 6 *ℤ k *ℤ k *ℤ quadratic d.r2.a d.r2.b d.r2.c M j +ℤ pos 4 *ℤ k *ℤ k *ℤ k *ℤ linear d.r3.a d.r3.b M j
      +ℤ k *ℤ k *ℤ k *ℤ k *ℤ d.r4.a

  abbrev by_columns : Matrix5 → ℤ
  by_columns c =
      quartic c.r0 M k +ℤ pos 4 *ℤ j *ℤ cubic c.r1.a c.r1.b c.r1.c c.r1.d M k
      +ℤ pos 6 *ℤ j *ℤ j *ℤ quadratic c.r2.a c.r2.b c.r2.c M k +ℤ pos 4 *ℤ j *ℤ j *ℤ j *ℤ linear c.r3.a c.r3.b M k
      +ℤ j *ℤ j *ℤ j *ℤ j *ℤ c.r4.a

-- a control point's term, and the sums of five of them, in both orders
regroup : (d00 d01 d02 d03 d04 d10 d11 d12 d13 d20 d21 d22 d30 d31 d40 M j k : ℤ)
    → quartic (vector5 d00 d01 d02 d03 d04) M j +ℤ pos 4 *ℤ k *ℤ cubic d10 d11 d12 d13 M j +ℤ pos 6 *ℤ k *ℤ k *ℤ quadratic d20 d21 d22 M j
    +ℤ pos 4 *ℤ k *ℤ k *ℤ k *ℤ linear d30 d31 M j +ℤ k *ℤ k *ℤ k *ℤ k *ℤ d40
    ≡ quartic (vector5 d00 d10 d20 d30 d40) M k +ℤ pos 4 *ℤ j *ℤ cubic d01 d11 d21 d31 M k +ℤ pos 6 *ℤ j *ℤ j *ℤ quadratic d02 d12 d22 M k
    +ℤ pos 4 *ℤ j *ℤ j *ℤ j *ℤ linear d03 d13 M k +ℤ j *ℤ j *ℤ j *ℤ j *ℤ d04
regroup = over 18 _ λ ρ. simp (poly, ρ) (omega arith)

-- ---- the weights of the columns
weigh0 : (a b c d e n x : ℤ)
    → a *ℤ (n *ℤ n *ℤ n *ℤ n) +ℤ x *ℤ (b *ℤ (pos 4 *ℤ (n *ℤ n *ℤ n)) +ℤ x *ℤ (c *ℤ (pos 6 *ℤ (n *ℤ n)) +ℤ x *ℤ (d *ℤ (pos 4 *ℤ n) +ℤ x *ℤ (e *ℤ pos 1))))
    ≡ quartic (vector5 a b c d e) n x
weigh0 = over 7 _ λ ρ. simp (poly, ρ) (omega arith)

pub weigh1 : (a b c d e n x : ℤ)
    → a *ℤ (pos 4 *ℤ (n *ℤ n *ℤ n)) +ℤ x *ℤ (b *ℤ (pos 12 *ℤ (n *ℤ n)) +ℤ x *ℤ (c *ℤ (pos 12 *ℤ n) +ℤ x *ℤ (d *ℤ pos 4 +ℤ x *ℤ (e *ℤ pos 0))))
    ≡ pos 4 *ℤ cubic a b c d n x
weigh1 = over 7 _ λ ρ. simp (poly, ρ) (omega arith)

weigh2 : (a b c d e n x : ℤ)
    → a *ℤ (pos 6 *ℤ (n *ℤ n)) +ℤ x *ℤ (b *ℤ (pos 12 *ℤ n) +ℤ x *ℤ (c *ℤ pos 6 +ℤ x *ℤ (d *ℤ pos 0 +ℤ x *ℤ (e *ℤ pos 0)))) ≡ pos 6 *ℤ quadratic a b c n x
weigh2 = over 7 _ λ ρ. simp (poly, ρ) (omega arith)

weigh3 : (a b c d e n x : ℤ)
    → a *ℤ (pos 4 *ℤ n) +ℤ x *ℤ (b *ℤ pos 4 +ℤ x *ℤ (c *ℤ pos 0 +ℤ x *ℤ (d *ℤ pos 0 +ℤ x *ℤ (e *ℤ pos 0)))) ≡ pos 4 *ℤ linear a b n x
weigh3 = over 7 _ λ ρ. simp (poly, ρ) (omega arith)

weigh4 : (a b c d e x : ℤ)
    → a *ℤ pos 1 +ℤ x *ℤ (b *ℤ pos 0 +ℤ x *ℤ (c *ℤ pos 0 +ℤ x *ℤ (d *ℤ pos 0 +ℤ x *ℤ (e *ℤ pos 0)))) ≡ a
weigh4 = over 6 _ λ ρ. simp (poly, ρ) (omega arith)

-- the powers of j outside
outside : (a b c d e j : ℤ)
    → a +ℤ j *ℤ (pos 4 *ℤ b +ℤ j *ℤ (pos 6 *ℤ c +ℤ j *ℤ (pos 4 *ℤ d +ℤ j *ℤ e)))
    ≡ a +ℤ pos 4 *ℤ j *ℤ b +ℤ pos 6 *ℤ j *ℤ j *ℤ c +ℤ pos 4 *ℤ j *ℤ j *ℤ j *ℤ d +ℤ j *ℤ j *ℤ j *ℤ j *ℤ e
outside = over 6 _ λ ρ. simp (poly, ρ) (omega arith)

-- ---- all together
turn_rows : (p : Matrix5) (i j k : ℤ) → quartic_sum p i j k ≡ by_rows (i +ℤ j) j k (slopes_of p)
unfolding quartic_sum slopes_of differences_of
turn_rows p i j k =
    cc (
      quartic_turn' p.r0.a p.r0.b p.r0.c p.r0.d p.r0.e i j,
      cubic_turn p.r1.a p.r1.b p.r1.c p.r1.d i j,
      quadratic_turn p.r2.a p.r2.b p.r2.c i j,
      linear_turn p.r3.a p.r3.b i j,
    )

turn_columns : (d : Matrix5) (M j k : ℤ) → by_rows M j k d ≡ by_columns M j k (columns_of d)
unfolding columns_of
turn_columns d M j k =
    regroup d.r0.a d.r0.b d.r0.c d.r0.d d.r0.e d.r1.a d.r1.b d.r1.c d.r1.d d.r2.a d.r2.b d.r2.c
    d.r3.a d.r3.b d.r4.a M j k

turn_all : (c : Matrix5) (M j k : ℤ) → by_columns M j k c ≡ by_columns (M +ℤ k) j k (slopes_of c)
unfolding slopes_of differences_of
turn_all c M j k =
    cc (
      quartic_turn' c.r0.a c.r0.b c.r0.c c.r0.d c.r0.e M k,
      cubic_turn c.r1.a c.r1.b c.r1.c c.r1.d M k,
      quadratic_turn c.r2.a c.r2.b c.r2.c M k,
      linear_turn c.r3.a c.r3.b M k,
    )

weighed : (g : Matrix5) (n : ℤ) (j k : ℕ) → polynomial_at (row_of (scaled_of g (weights_of n)) k) j ≡ by_columns n (pos j) (pos k) g
unfolding polynomial_at row_of scaled_of weighted_of weights_of
weighed g n j k =
    cc (
      weigh0 g.r0.a g.r0.b g.r0.c g.r0.d g.r0.e n (pos k),
      weigh1 g.r1.a g.r1.b g.r1.c g.r1.d g.r1.e n (pos k),
      weigh2 g.r2.a g.r2.b g.r2.c g.r2.d g.r2.e n (pos k),
      weigh3 g.r3.a g.r3.b g.r3.c g.r3.d g.r3.e n (pos k),
      weigh4 g.r4.a g.r4.b g.r4.c g.r4.d g.r4.e (pos k),
      outside (quartic g.r0 n (pos k)) (cubic g.r1.a g.r1.b g.r1.c g.r1.d n (pos k)) (quadratic g.r2.a g.r2.b g.r2.c n (pos k))
          (linear g.r3.a g.r3.b n (pos k)) g.r4.a (pos j),
    )

-- the polynomial at j and k is the sum at i, j and k, where the three make n
pub polynomial_sum : (p : Matrix5) (i j k : ℕ) → polynomial_at (row_of (polynomial_of p (pos (i + j + k))) k) j ≡ quartic_sum p (pos i) (pos j) (pos k)
unfolding polynomial_of
polynomial_sum p i j k =
    weighed (slopes_of (columns_of (slopes_of p))) (pos (i + j + k)) j k
    ∙ sym (turn_rows p (pos i) (pos j) (pos k) ∙ turn_columns (slopes_of p) (pos (i + j)) (pos j) (pos k)
    ∙ turn_all (columns_of (slopes_of p)) (pos (i + j)) (pos j) (pos k))

-- ---- five states at a time
pub states_step : (c : Matrix5) (k : ℕ) → steps_of (states_of c k) ≡ states_of c (k + 1)
unfolding steps_of states_of
states_step c k = cc (state_step c.r0 k, state_step c.r1 k, state_step c.r2 k, state_step c.r3 k, state_step c.r4 k)

pub firsts_row : (c : Matrix5) (k : ℕ) → firsts_of (states_of c k) ≡ row_of c k
unfolding firsts_of states_of state_of row_of
firsts_row c k = refl
