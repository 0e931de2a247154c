-- One number of a sample: along a side it depends on the outer row alone, on a ray it is that of the other side, and where the sum is a multiple it is a control point.
use mathlib.Core.Path.{◌≡◌, refl, sym, ap, ◌∙◌}
use mathlib.Core.List.{List}
use Prim.Native.Nat.{ℕ, ◌^◌, ◌≤◌, ◌<◌}
use native.Mathlib.Nat.{one-le-pow}
use native.Mathlib.Omega.{arith}
use lib.IntN.{ℤ, pos, ◌*ℤ◌}
use lib.Signed.{◌<ℤ◌}
use Rattle.paper.specs.Numbers.{round}
use Rattle.paper.specs.Net.{Side, side0, side1, side2, side3, at_head, at_tail, outer_row}
use Rattle.paper.specs.Sampling.{control, weights, on_axis, bernstein_sum, sample_at, side_at, side_number}
use Rattle.numbers.proofs.Diff.{diff}
use Rattle.bernstein.specs.Sums.{rows_of}
use Rattle.bernstein.proofs.Sum.{bernstein_is, on_side, from_head, from_tail, round_multiple}

pub side_back : (s : Side) → side_at (side_number s) ≡ s
side_back side0 = refl
side_back side1 = refl
side_back side2 = refl
side_back side3 = refl

-- ---- along a side
-- the sum on a side is that of its outer row
side_sum : (p q : ℕ → ℤ) (s t : Side) (i j : ℕ) → ((m : ℕ) → m < 5 → outer_row p s m ≡ outer_row q t m) → bernstein_sum p s i j 0 ≡ bernstein_sum q t i j 0
side_sum p q s t i j h =
    bernstein_is p s i j 0 ∙ on_side (rows_of (control p s)) (pos i) (pos j)
    ∙ cc (h 0 (omega arith), h 1 (omega arith), h 2 (omega arith), h 3 (omega arith), h 4 (omega arith))
    ∙ sym (bernstein_is q t i j 0 ∙ on_side (rows_of (control q t)) (pos i) (pos j))

pub side_number_lem : (net other : List ℤ) (s t : Side) (i j N axis : ℕ) → ((m : ℕ) → m < 5 → outer_row (on_axis net axis) s m ≡ outer_row (on_axis other axis) t m)
    → sample_at net s (weights i j 0 N) axis ≡ sample_at other t (weights i j 0 N) axis
unfolding sample_at
side_number_lem net other s t i j N axis h = ap (λ (z : ℤ). round z (pos (N ^ 4))) (side_sum (on_axis net axis) (on_axis other axis) s t i j h)

-- ---- the rays: the first points of the rows are those of the other side at the head, the last ones those of the other side at the tail
module _ (p : ℕ → ℤ) where
  head_row : (s : Side) → (control p s 0 0 ≡ control p (at_head s) 0 0) × (control p s 1 0 ≡ control p (at_head s) 1 0)
      × (control p s 2 0 ≡ control p (at_head s) 2 0) × (control p s 3 0 ≡ control p (at_head s) 3 0)
  head_row side0 = (refl, refl, refl, refl)
  head_row side1 = (refl, refl, refl, refl)
  head_row side2 = (refl, refl, refl, refl)
  head_row side3 = (refl, refl, refl, refl)

  tail_row : (s : Side) → (control p s 0 4 ≡ control p (at_tail s) 0 4) × (control p s 1 3 ≡ control p (at_tail s) 1 3)
      × (control p s 2 2 ≡ control p (at_tail s) 2 2) × (control p s 3 1 ≡ control p (at_tail s) 3 1)
  tail_row side0 = (refl, refl, refl, refl)
  tail_row side1 = (refl, refl, refl, refl)
  tail_row side2 = (refl, refl, refl, refl)
  tail_row side3 = (refl, refl, refl, refl)

  head_ray : (s : Side) (i k : ℕ) → bernstein_sum p s i 0 k ≡ bernstein_sum p (at_head s) i 0 k
  head_ray s i k =
      let h = head_row s in
      bernstein_is p s i 0 k ∙ from_head (rows_of (control p s)) (pos i) (pos k) ∙ cc (h.0, h.1, h.2, h.3)
      ∙ sym (bernstein_is p (at_head s) i 0 k ∙ from_head (rows_of (control p (at_head s))) (pos i) (pos k))

  tail_ray : (s : Side) (j k : ℕ) → bernstein_sum p s 0 j k ≡ bernstein_sum p (at_tail s) 0 j k
  tail_ray s j k =
      let h = tail_row s in
      bernstein_is p s 0 j k ∙ from_tail (rows_of (control p s)) (pos j) (pos k) ∙ cc (h.0, h.1, h.2, h.3)
      ∙ sym (bernstein_is p (at_tail s) 0 j k ∙ from_tail (rows_of (control p (at_tail s))) (pos j) (pos k))

pub head_number : (numbers : List ℤ) (s : Side) (i k N axis : ℕ) → sample_at numbers s (weights i 0 k N) axis ≡ sample_at numbers (at_head s) (weights i 0 k N) axis
unfolding sample_at
head_number numbers s i k N axis = ap (λ (z : ℤ). round z (pos (N ^ 4))) (head_ray (on_axis numbers axis) s i k)

pub tail_number : (numbers : List ℤ) (s : Side) (j k N axis : ℕ) → sample_at numbers s (weights 0 j k N) axis ≡ sample_at numbers (at_tail s) (weights 0 j k N) axis
unfolding sample_at
tail_number numbers s j k N axis = ap (λ (z : ℤ). round z (pos (N ^ 4))) (tail_ray (on_axis numbers axis) s j k)

-- ---- the ends
pub positive : (N : ℕ) → 1 ≤ N → pos 0 <ℤ pos (N ^ 4)
positive N h = let one = one-le-pow 4 N h in simp diff (omega arith)

-- a sample whose sum is the multiple by N^4 of a number is this number
module _ (numbers : List ℤ) (s : Side) (i j k N n q : ℕ) (h : (p : ℕ → ℤ) → bernstein_sum p s i j k ≡ pos (N ^ 4) *ℤ control p s n q) where
  pub multiple_number : 1 ≤ N → (axis : ℕ) → sample_at numbers s (weights i j k N) axis ≡ control (on_axis numbers axis) s n q
  unfolding sample_at
  multiple_number some axis =
      ap (λ (z : ℤ). round z (pos (N ^ 4))) (h (on_axis numbers axis)) ∙ round_multiple (pos (N ^ 4)) (control (on_axis numbers axis) s n q) (positive N some)
