-- Sizes of differences, products and states, and what the code's structs hold by their bits.
use mathlib.Core.Path.{◌≡◌, sym, ap, ◌∙◌}
use Prim.Native.Nat.{ℕ, ◌+◌, ◌*◌, ◌^◌, ◌≤◌}
use native.Mathlib.Nat.{mul-le-mul, le_trans}
use native.Mathlib.Omega.{arith}
use lib.Dec.{lit<, lit≤}
use lib.IntN.{ℤ, pos, neg_ℤ, nat_abs, ◌+ℤ◌, ◌-ℤ◌, ◌*ℤ◌}
use lib.Signed.{◌≤ℤ◌, ◌<ℤ◌}
use mir.Syntax.{w64}
use mir.Val.{SFits, to_z, of_z}
use mir.Facts.{to_z-of_z}
use Rattle.paper.specs.Numbers.{round}
use Rattle.numbers.proofs.Diff.{as_diff, diff}
use Rattle.numbers.proofs.Poly.{over, poly}
use Rattle.numbers.proofs.Laws.{abs_mul, abs_mul_le, abs_add_le}
use Rattle.numbers.proofs.Machine.{abs_fits}
use Rattle.numbers.proofs.Floor.{step_le}
use Rattle.numbers.specs.WithinHalf.{WithinHalf}
use Rattle.numbers.proofs.Nearest.{round_within_half}
use Rattle.bernstein.specs.declared.Vector5.{Vector5}
use Rattle.bernstein.specs.declared.Matrix5.{Matrix5}
use Rattle.bernstein.specs.Sums.{Sized, AllSized, Tapered, AllTapered, differences_of, slopes_of, columns_of, weighted_of, weights_of, scaled_of}
use Rattle.bernstein.specs.Sums.{polynomial_of, polynomial_at, state_of, states_of, row_of}

-- ---- numbers by their bits
abbrev pub bits : ℤ → ℤ
bits z = to_z w64 (of_z w64 z)

pub size_fits : (z : ℤ) → nat_abs z ≤ 2 ^ 62 → SFits w64 z
size_fits z h = abs_fits w64 z (2 ^ 62) h (lit< tt)

module _ (v : Vector5) (B : ℕ) (h : Sized B v) (l : B ≤ 2 ^ 62) where
  pub fits : SFits w64 v.a × SFits w64 v.b × SFits w64 v.c × SFits w64 v.d × SFits w64 v.e
  fits = (
    size_fits v.a (le_trans h.0 l),
    size_fits v.b (le_trans h.1 l),
    size_fits v.c (le_trans h.2 l),
    size_fits v.d (le_trans h.3 l),
    size_fits v.e (le_trans h.4 l),
  )

-- ---- rounding keeps between two whole numbers
lower : (n d q l : ℤ) → pos 0 <ℤ d → WithinHalf n d q → (d *ℤ l) ≤ℤ n → (d *ℤ l) <ℤ (d *ℤ q +ℤ d)
lower = over 4 _ λ ρ. simp (poly, ρ) (omega arith)

upper : (n d q h : ℤ) → pos 0 <ℤ d → WithinHalf n d q → n ≤ℤ (d *ℤ h) → (d *ℤ q) <ℤ (d *ℤ h +ℤ d)
upper = over 4 _ λ ρ. simp (poly, ρ) (omega arith)

pub round_between : (n d l h : ℤ) → pos 0 <ℤ d → (d *ℤ l) ≤ℤ n → n ≤ℤ (d *ℤ h) → (l ≤ℤ round n d) × (round n d ≤ℤ h)
round_between n d l h o f t = (
  step_le d l (round n d) o (lower n d (round n d) l o (round_within_half n d o) f),
  step_le d (round n d) h o (upper n d (round n d) h o (round_within_half n d o) t),
)

pub abs_bounds : (z : ℤ) (k : ℕ) → nat_abs z ≤ k → (neg_ℤ (pos k) ≤ℤ z) × (z ≤ℤ pos k)
abs_bounds z k = as_diff z λ p n e. simp (diff, e) (λ h. (omega arith, omega arith))

pub bounds_abs : (z : ℤ) (k : ℕ) → neg_ℤ (pos k) ≤ℤ z → z ≤ℤ pos k → nat_abs z ≤ k
bounds_abs z k = as_diff z λ p n e. simp (diff, e) (λ f t. omega arith)

scaled_bounds : (d b s : ℤ) → neg_ℤ (b *ℤ d) ≤ℤ s → s ≤ℤ (b *ℤ d) → ((d *ℤ neg_ℤ b) ≤ℤ s) × (s ≤ℤ (d *ℤ b))
scaled_bounds = over 3 _ λ ρ. simp poly (omega arith)

pub round_size : (s : ℤ) (d B : ℕ) → pos 0 <ℤ pos d → nat_abs s ≤ B * d → nat_abs (round s (pos d)) ≤ B
round_size s d B o h =
    let b = abs_bounds s (B * d) h in
    let c = scaled_bounds (pos d) (pos B) s b.0 b.1 in
    let r = round_between s (pos d) (neg_ℤ (pos B)) (pos B) o c.0 c.1 in
    bounds_abs (round s (pos d)) B r.0 r.1

-- ---- differences: each order at most doubles
module _ (v : Vector5) (B : ℕ) (h : Sized B v) where
  differences_sizes : (a b c d e : ℤ) (B : ℕ) → nat_abs a ≤ B → nat_abs b ≤ B → nat_abs c ≤ B → nat_abs d ≤ B → nat_abs e ≤ B
      → (nat_abs (b -ℤ a) ≤ 2 * B) × (nat_abs (c -ℤ b -ℤ (b -ℤ a)) ≤ 4 * B) × (nat_abs (d -ℤ c -ℤ (c -ℤ b) -ℤ (c -ℤ b -ℤ (b -ℤ a))) ≤ 8 * B)
      × (nat_abs (e -ℤ d -ℤ (d -ℤ c) -ℤ (d -ℤ c -ℤ (c -ℤ b)) -ℤ (d -ℤ c -ℤ (c -ℤ b) -ℤ (c -ℤ b -ℤ (b -ℤ a)))) ≤ 16 * B)
  differences_sizes a b c d e B = as_diff a λ p n ea. as_diff b λ p n eb. as_diff c λ p n ec. as_diff d λ p n ed. as_diff e λ p n ee.
      simp (diff, ea, eb, ec, ed, ee) (λ f g h i j. (omega arith, omega arith, omega arith, omega arith))

  abbrev g : Vector5
  g = differences_of v

  pub first_size : nat_abs g.a ≤ B
  unfolding differences_of
  first_size = h.0

  sizes : (nat_abs g.b ≤ 2 * B) × (nat_abs g.c ≤ 4 * B) × (nat_abs g.d ≤ 8 * B) × (nat_abs g.e ≤ 16 * B)
  unfolding differences_of
  sizes = differences_sizes v.a v.b v.c v.d v.e B h.0 h.1 h.2 h.3 h.4

  pub differences_size : Sized (16 * B) g
  differences_size = (omega (arith, first_size), omega (arith, sizes.0), omega (arith, sizes.1), omega (arith, sizes.2), sizes.3)

  pub second_size : nat_abs g.b ≤ 2 * B
  second_size = sizes.0

  pub third_size : nat_abs g.c ≤ 4 * B
  third_size = sizes.1

  pub fourth_size : nat_abs g.d ≤ 8 * B
  fourth_size = sizes.2

  pub fifth_size : nat_abs g.e ≤ 16 * B
  fifth_size = sizes.3

pub slopes_size : (p : Matrix5) (B : ℕ) → AllSized B p → AllSized (16 * B) (slopes_of p)
unfolding slopes_of
slopes_size p B h = (
  differences_size p.r0 B h.0,
  differences_size p.r1 B h.1,
  differences_size p.r2 B h.2,
  differences_size p.r3 B h.3,
  differences_size p.r4 B h.4,
)

-- ---- columns, weights and products
zero_size : (B : ℕ) → nat_abs (pos 0) ≤ B
zero_size B = omega arith

pub columns_size : (d : Matrix5) (B : ℕ) → AllSized B d → AllSized B (columns_of d)
unfolding columns_of
columns_size d B h =
    let z = zero_size B in (
      (h.0.0, h.1.0, h.2.0, h.3.0, h.4.0),
      (h.0.1, h.1.1, h.2.1, h.3.1, z),
      (h.0.2, h.1.2, h.2.2, z, z),
      (h.0.3, h.1.3, z, z, z),
      (h.0.4, z, z, z, z),
    )

pub powers : (n : ℕ) → n ≤ 16 → (n * n ≤ 256) × (n * n * n ≤ 4096) × (n * n * n * n ≤ 65536)
powers n h =
    let s : n * n ≤ 16 * 16 = mul-le-mul h h in
    let c : n * n * n ≤ 256 * 16 = mul-le-mul s h in
    let q : n * n * n * n ≤ 4096 * 16 = mul-le-mul c h in
    (s, c, q)

-- ---- the coefficients taper: one of j^p k^q is within 2^(50 - 4(p + q))
within : (v w : ℤ) (m k r : ℕ) → nat_abs v ≤ m → nat_abs w ≤ k → m * k ≤ r → nat_abs (v *ℤ w) ≤ r
within v w m k r f g h = le_trans (abs_mul_le v w m k f g) h

none : (v : ℤ) (r : ℕ) → nat_abs (v *ℤ pos 0) ≤ r
none v r = rw abs_mul (omega arith)

module _ (p : Matrix5) (n : ℕ) (h : AllSized (2 ^ 27) p) (l : n ≤ 16) where
  abbrev col : Matrix5
  col = columns_of (slopes_of p)

  col0 : Sized (2 ^ 27) col.r0
  unfolding columns_of slopes_of
  col0 = (
    first_size p.r0 (2 ^ 27) h.0,
    first_size p.r1 (2 ^ 27) h.1,
    first_size p.r2 (2 ^ 27) h.2,
    first_size p.r3 (2 ^ 27) h.3,
    first_size p.r4 (2 ^ 27) h.4,
  )

  col1 : Sized (2 ^ 28) col.r1
  unfolding columns_of slopes_of
  col1 = (
    second_size p.r0 (2 ^ 27) h.0,
    second_size p.r1 (2 ^ 27) h.1,
    second_size p.r2 (2 ^ 27) h.2,
    second_size p.r3 (2 ^ 27) h.3,
    zero_size (2 ^ 28),
  )

  col2 : Sized (2 ^ 29) col.r2
  unfolding columns_of slopes_of
  col2 = (
    third_size p.r0 (2 ^ 27) h.0,
    third_size p.r1 (2 ^ 27) h.1,
    third_size p.r2 (2 ^ 27) h.2,
    zero_size (2 ^ 29),
    zero_size (2 ^ 29),
  )

  col3 : Sized (2 ^ 30) col.r3
  unfolding columns_of slopes_of
  col3 = (fourth_size p.r0 (2 ^ 27) h.0, fourth_size p.r1 (2 ^ 27) h.1, zero_size (2 ^ 30), zero_size (2 ^ 30), zero_size (2 ^ 30))

  col4 : Sized (2 ^ 31) col.r4
  unfolding columns_of slopes_of
  col4 = (fifth_size p.r0 (2 ^ 27) h.0, zero_size (2 ^ 31), zero_size (2 ^ 31), zero_size (2 ^ 31), zero_size (2 ^ 31))

  pub weights_size : AllSized (2 ^ 16) (weights_of (pos n))
  unfolding weights_of
  weights_size =
      let k = powers n l in (
        (k.2, omega (arith, k.1), omega (arith, k.0), omega arith, omega arith),
        (omega (arith, k.1), omega (arith, k.0), omega arith, omega arith, omega arith),
        (omega (arith, k.0), omega arith, omega arith, omega arith, omega arith),
        (omega arith, omega arith, omega arith, omega arith, omega arith),
        (omega arith, omega arith, omega arith, omega arith, omega arith),
      )

  pub polynomial_tapers : AllTapered (polynomial_of p (pos n))
  unfolding polynomial_of scaled_of slopes_of weighted_of weights_of
  polynomial_tapers =
      let k = powers n l in
      record {
        t0 = (
          within (differences_of col.r0).a (pos (n * n * n * n)) (2 ^ 27) 65536 _ (first_size col.r0 (2 ^ 27) col0) k.2 (lit≤ tt),
          within (differences_of col.r0).b (pos (4 * (n * n * n))) (2 ^ 28) 16384 _ (second_size col.r0 (2 ^ 27) col0) (omega (arith, k.1)) (lit≤ tt),
          within (differences_of col.r0).c (pos (6 * (n * n))) (2 ^ 29) 1536 _ (third_size col.r0 (2 ^ 27) col0) (omega (arith, k.0)) (lit≤ tt),
          within (differences_of col.r0).d (pos (4 * n)) (2 ^ 30) 64 _ (fourth_size col.r0 (2 ^ 27) col0) (omega arith) (lit≤ tt),
          within (differences_of col.r0).e (pos (1)) (2 ^ 31) 1 _ (fifth_size col.r0 (2 ^ 27) col0) (omega arith) (lit≤ tt),
        );
        t1 = (
          within (differences_of col.r1).a (pos (4 * (n * n * n))) (2 ^ 28) 16384 _ (first_size col.r1 (2 ^ 28) col1) (omega (arith, k.1)) (lit≤ tt),
          within (differences_of col.r1).b (pos (12 * (n * n))) (2 ^ 29) 3072 _ (second_size col.r1 (2 ^ 28) col1) (omega (arith, k.0)) (lit≤ tt),
          within (differences_of col.r1).c (pos (12 * n)) (2 ^ 30) 192 _ (third_size col.r1 (2 ^ 28) col1) (omega arith) (lit≤ tt),
          within (differences_of col.r1).d (pos (4)) (2 ^ 31) 4 _ (fourth_size col.r1 (2 ^ 28) col1) (omega arith) (lit≤ tt),
          none (differences_of col.r1).e _,
        );
        t2 = (
          within (differences_of col.r2).a (pos (6 * (n * n))) (2 ^ 29) 1536 _ (first_size col.r2 (2 ^ 29) col2) (omega (arith, k.0)) (lit≤ tt),
          within (differences_of col.r2).b (pos (12 * n)) (2 ^ 30) 192 _ (second_size col.r2 (2 ^ 29) col2) (omega arith) (lit≤ tt),
          within (differences_of col.r2).c (pos (6)) (2 ^ 31) 6 _ (third_size col.r2 (2 ^ 29) col2) (omega arith) (lit≤ tt),
          none (differences_of col.r2).d _,
          none (differences_of col.r2).e _,
        );
        t3 = (
          within (differences_of col.r3).a (pos (4 * n)) (2 ^ 30) 64 _ (first_size col.r3 (2 ^ 30) col3) (omega arith) (lit≤ tt),
          within (differences_of col.r3).b (pos (4)) (2 ^ 31) 4 _ (second_size col.r3 (2 ^ 30) col3) (omega arith) (lit≤ tt),
          none (differences_of col.r3).c _,
          none (differences_of col.r3).d _,
          none (differences_of col.r3).e _,
        );
        t4 = (
          within (differences_of col.r4).a (pos (1)) (2 ^ 31) 1 _ (first_size col.r4 (2 ^ 31) col4) (omega arith) (lit≤ tt),
          none (differences_of col.r4).b _,
          none (differences_of col.r4).c _,
          none (differences_of col.r4).d _,
          none (differences_of col.r4).e _,
        );
      }

pub tapered_size : (f : Vector5) (A : ℕ) → Tapered A f → A ≤ 2 ^ 37 → Sized (2 ^ 54) f
tapered_size f A h small = (omega (arith, h.0), omega (arith, h.1), omega (arith, h.2), omega (arith, h.3), omega (arith, h.4))

-- ---- values and states at weights up to 16
pub horner : (a s : ℤ) (x m k : ℕ) → x ≤ 16 → nat_abs a ≤ m → nat_abs s ≤ k → nat_abs (a +ℤ pos x *ℤ s) ≤ m + 16 * k
horner a s x m k l f g = abs_add_le a (pos x *ℤ s) m (16 * k) f (abs_mul_le (pos x) s 16 k l g)

sum3 : (p q r : ℤ) (i j k : ℕ) → nat_abs p ≤ i → nat_abs q ≤ j → nat_abs r ≤ k → nat_abs (p +ℤ q +ℤ r) ≤ i + j + k
sum3 p q r i j k f g h = abs_add_le (p +ℤ q) r (i + j) k (abs_add_le p q i j f g) h

sum4 : (p q r s : ℤ) (i j k m : ℕ) → nat_abs p ≤ i → nat_abs q ≤ j → nat_abs r ≤ k → nat_abs s ≤ m → nat_abs (p +ℤ q +ℤ r +ℤ s) ≤ i + j + k + m
sum4 p q r s i j k m f g h o = abs_add_le (p +ℤ q +ℤ r) s (i + j + k) m (sum3 p q r i j k f g h) o

module _ (f : Vector5) (x A : ℕ) (l : x ≤ 16) (h : Tapered A f) where
  pub value_size : nat_abs (polynomial_at f x) ≤ 5 * (65536 * A)
  unfolding polynomial_at
  value_size =
      let s1 = horner f.d f.e x (16 * A) A l h.3 h.4 in
      let s2 = horner f.c (f.d +ℤ pos x *ℤ f.e) x (256 * A) (32 * A) l h.2 (omega (arith, s1)) in
      let s3 = horner f.b (f.c +ℤ pos x *ℤ (f.d +ℤ pos x *ℤ f.e)) x (4096 * A) (768 * A) l h.1 (omega (arith, s2)) in
      let s4 = horner f.a (f.b +ℤ pos x *ℤ (f.c +ℤ pos x *ℤ (f.d +ℤ pos x *ℤ f.e))) x (65536 * A) (16384 * A) l h.0 (omega (arith, s3)) in
      omega (arith, s4)

  times : (z : ℤ) (m k j : ℕ) → nat_abs z ≤ m → k ≤ j → nat_abs (z *ℤ pos k) ≤ m * j
  times z m k j f g = abs_mul_le z (pos k) m j f g

  pub state_size : A ≤ 2 ^ 37 → Sized (2 ^ 60) (state_of f x)
  unfolding state_of
  state_size small =
      let k = powers x l in
      let c1 = times f.c (256 * A) (2 * x + 1) 33 h.2 (omega arith) in
      let d1 = times f.d (16 * A) (3 * (x * x) + 3 * x + 1) 817 h.3 (omega (arith, k.0)) in
      let e1 = times f.e A (4 * (x * x * x) + 6 * (x * x) + 4 * x + 1) 17985 h.4 (omega (arith, k.0, k.1)) in
      let b4 =
      sum4 f.b (f.c *ℤ pos (2 * x + 1)) (f.d *ℤ pos (3 * (x * x) + 3 * x + 1)) (f.e *ℤ pos (4 * (x * x * x) + 6 * (x * x) + 4 * x + 1))
      (4096 * A) (256 * A * 33) (16 * A * 817) (A * 17985) h.1 c1 d1 e1 in
      let c0 = abs_mul_le (pos 2) f.c 2 (256 * A) (lit≤ tt) h.2 in
      let c2 = times f.d (16 * A) (6 * x + 6) 102 h.3 (omega arith) in
      let e2 = times f.e A (12 * (x * x) + 24 * x + 14) 3470 h.4 (omega (arith, k.0)) in
      let c4 =
      sum3 (pos 2 *ℤ f.c) (f.d *ℤ pos (6 * x + 6)) (f.e *ℤ pos (12 * (x * x) + 24 * x + 14)) (2 * (256 * A)) (16 * A * 102) (A * 3470) c0 c2 e2 in
      let d0 = abs_mul_le (pos 6) f.d 6 (16 * A) (lit≤ tt) h.3 in
      let e3 = times f.e A (24 * x + 36) 420 h.4 (omega arith) in
      let d4 = abs_add_le (pos 6 *ℤ f.d) (f.e *ℤ pos (24 * x + 36)) (6 * (16 * A)) (A * 420) d0 e3 in
      let e0 = abs_mul_le (pos 24) f.e 24 A (lit≤ tt) h.4 in
      (omega (arith, value_size), omega (arith, b4), omega (arith, c4), omega (arith, d4), omega (arith, e0))

module _ (c : Matrix5) (k : ℕ) (l : k ≤ 16) (t : AllTapered c) where
  pub states_size : AllSized (2 ^ 60) (states_of c k)
  unfolding states_of
  states_size = (
    state_size c.r0 k (2 ^ 34) l t.t0 (lit≤ tt),
    state_size c.r1 k (2 ^ 30) l t.t1 (lit≤ tt),
    state_size c.r2 k (2 ^ 26) l t.t2 (lit≤ tt),
    state_size c.r3 k (2 ^ 22) l t.t3 (lit≤ tt),
    state_size c.r4 k (2 ^ 18) l t.t4 (lit≤ tt),
  )

  pub row_tapers : Tapered (5 * 2 ^ 34) (row_of c k)
  unfolding row_of
  row_tapers = (
    value_size c.r0 k (2 ^ 34) l t.t0,
    value_size c.r1 k (2 ^ 30) l t.t1,
    value_size c.r2 k (2 ^ 26) l t.t2,
    value_size c.r3 k (2 ^ 22) l t.t3,
    value_size c.r4 k (2 ^ 18) l t.t4,
  )

-- ---- a quotient's arm
pub arm : (s q d : ℤ) (n m : ℕ) → SFits w64 s → SFits w64 q → n ≡ m → d ≡ pos (m ^ 4) → q ≡ round (bits s) d → bits q ≡ round s (pos (n ^ 4))
arm s q d n m f g e h r = to_z-of_z g ∙ r ∙ ap (λ (z : ℤ). round z d) (to_z-of_z f) ∙ ap (round s) (h ∙ ap (λ (k : ℕ). pos (k ^ 4)) (sym e))

-- a number of the width is not changed by its bits
pub sized_bits : (z : ℤ) (B : ℕ) → nat_abs z ≤ B → B ≤ 2 ^ 62 → bits z ≡ z
sized_bits z B h l = to_z-of_z (size_fits z (le_trans h l))

-- ---- the code's steps, one after the other
pub polynomial_is : (p d c g w r : Matrix5) (n : ℕ) → d ≡ slopes_of p → c ≡ columns_of d → g ≡ slopes_of c → w ≡ weights_of (pos n) → r ≡ scaled_of g w
    → r ≡ polynomial_of p (pos n)
unfolding polynomial_of
polynomial_is p d c g w r n e f h i j = cc

pub states_are : (c : Matrix5) (k : ℕ) (r0 r1 r2 r3 r4 : Vector5) → r0 ≡ state_of c.r0 k → r1 ≡ state_of c.r1 k → r2 ≡ state_of c.r2 k
    → r3 ≡ state_of c.r3 k → r4 ≡ state_of c.r4 k → record { r0 = r0; r1 = r1; r2 = r2; r3 = r3; r4 = r4 } ≡ states_of c k
unfolding states_of
states_are c k r0 r1 r2 r3 r4 e f g h i = cc

-- the last arm of the quotient: what is none of the keys below
pub above : (n m : ℕ) → m ≤ n → (n ≡ m → ⊥) → m + 1 ≤ n
above n m h k = omega arith

pub is_last : (n m : ℕ) → m ≤ n → n ≤ m → n ≡ m
is_last n m h k = omega arith
