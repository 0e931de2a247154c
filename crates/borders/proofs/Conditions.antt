-- The four conditions of the values of a border, from its two rules and from roundings that are off by at most half.
-- Each is one linear argument over the products of the values (notes of the budget: 12.6, 11.6, 11 and 11 ticks are the worst that can be).
use mathlib.Core.Path.{◌≡◌, refl}
use Prim.Native.Nat.{ℕ, ◌*◌}
use native.Mathlib.Omega.{arith}
use lib.Dec.{T as Passes}
use lib.IntN.{ℤ, pos, ◌+ℤ◌, ◌-ℤ◌, ◌*ℤ◌}
use lib.Signed.{lt_z}
use Rattle.numbers.proofs.Poly.{over, poly}
use Rattle.paper.specs.Numbers.{round, rounded}
use Rattle.paper.specs.Refined.{RefinedMesh}
use Rattle.paper.specs.Net.{Side, side0, side1, side2, side3, at_head, at_tail, H, T, X, Y, N, C, outer1, outer2, outer3, a0, a1, a2, a3}
use Rattle.paper.specs.Borders.{first, second, third, fourth, InBounds}
use Rattle.paper.specs.Cosines.{unit}
use Rattle.numbers.specs.WithinHalf.{WithinHalf}
use Rattle.numbers.proofs.Nearest.{within_half_is}
use Rattle.surface.proofs.Faces.{HeadRule, TailRule}
use Rattle.surface.proofs.Border.{Border}
use Rattle.surface.proofs.Roundings.{SecondRow, ThirdRow, outer1_is, outer2_is, outer3_is, N-is, a0_is, a1_is, a2_is, a3_is}
use Rattle.borders.specs.Rounding.{OffByHalf}

-- every rounded value is
half : (n d q : ℤ) → Passes (lt_z (pos 0) d) → q ≡ round n d → OffByHalf n d q
half n d q t e = plain n d q (within_half_is n d q t e)
  where
    plain : (n d q : ℤ) → WithinHalf n d q → OffByHalf n d q
    plain = over 3 _ λ ρ. simp (poly, ρ) (omega arith)

-- ---- plain integers; o, a, â are rounded values, v and w the two refined points
first_core : (H T X Y C X* X^ o o* o^ a â : ℤ)
    → OffByHalf (H +ℤ pos 3 *ℤ X) (pos 4) o → OffByHalf (H +ℤ pos 3 *ℤ X*) (pos 4) o* → OffByHalf (H +ℤ pos 3 *ℤ X^) (pos 4) o^
    → OffByHalf (o +ℤ o*) (pos 2) a → OffByHalf (o +ℤ o^) (pos 2) â
    → HeadRule C H X X* X^ → InBounds (first H T X Y C H a â)
first_core = over 12 _ λ ρ. simp (poly, ρ) (omega arith)

second_core : (H T X Y C v w X* X^ N M o a â : ℤ)
    → OffByHalf (H +ℤ pos 3 *ℤ X) (pos 4) o
    → OffByHalf (pos 3 *ℤ X +ℤ pos 3 *ℤ Y +ℤ v -ℤ w) (pos 6) N → OffByHalf (pos 3 *ℤ X +ℤ pos 3 *ℤ Y +ℤ w -ℤ v) (pos 6) M
    → OffByHalf (SecondRow (pos unit) (pos (4 * unit)) C H X Y X* N) (pos (8 * unit)) a
    → OffByHalf (SecondRow (pos unit) (pos (4 * unit)) C H X Y X^ M) (pos (8 * unit)) â
    → HeadRule C H X X* X^ → InBounds (second H T X Y C o a â)
second_core = over 14 _ λ ρ. simp (poly, ρ) (omega arith)

third_core : (H T X Y C v w Y* Y^ N M o a â : ℤ)
    → OffByHalf (X +ℤ Y) (pos 2) o
    → OffByHalf (pos 3 *ℤ X +ℤ pos 3 *ℤ Y +ℤ v -ℤ w) (pos 6) N → OffByHalf (pos 3 *ℤ X +ℤ pos 3 *ℤ Y +ℤ w -ℤ v) (pos 6) M
    → OffByHalf (ThirdRow (pos (3 * unit)) (pos unit) (pos (4 * unit)) C T Y Y* N) (pos (8 * unit)) a
    → OffByHalf (ThirdRow (pos (3 * unit)) (pos unit) (pos (4 * unit)) C T Y Y^ M) (pos (8 * unit)) â
    → TailRule T Y Y* Y^ → InBounds (third H T X Y C o a â)
third_core = over 14 _ λ ρ. simp (poly, ρ) (omega arith)

fourth_core : (H T X Y C Y* Y^ o o* o^ a â : ℤ)
    → OffByHalf (pos 3 *ℤ Y +ℤ T) (pos 4) o → OffByHalf (pos 3 *ℤ Y* +ℤ T) (pos 4) o* → OffByHalf (pos 3 *ℤ Y^ +ℤ T) (pos 4) o^
    → OffByHalf (o +ℤ o*) (pos 2) a → OffByHalf (o +ℤ o^) (pos 2) â
    → TailRule T Y Y* Y^ → InBounds (fourth H T X Y C o a â)
fourth_core = over 12 _ λ ρ. simp (poly, ρ) (omega arith)

-- ---- the two sides at a head have one head, those at a tail one tail
pub head_shared : (K : RefinedMesh rounded) (c : ℕ) (s : Side) → H K c (at_head s) ≡ H K c s
unfolding H
head_shared K c side0 = refl
head_shared K c side1 = refl
head_shared K c side2 = refl
head_shared K c side3 = refl

pub tail_shared : (K : RefinedMesh rounded) (c : ℕ) (s : Side) → T K c (at_tail s) ≡ T K c s
unfolding T
tail_shared K c side0 = refl
tail_shared K c side1 = refl
tail_shared K c side2 = refl
tail_shared K c side3 = refl

-- ---- of a border
module _ (K : RefinedMesh rounded) (c : ℕ) (s : Side) (d : ℕ) (t : Side) (e : Border K c s d t) where
  pub same_outer1 : outer1 K d t ≡ outer1 K c s
  unfolding outer1
  same_outer1 = rw (e.same_h, e.same_x)

  pub same_outer2 : outer2 K d t ≡ outer2 K c s
  unfolding outer2
  same_outer2 = rw (e.same_x, e.same_y)

  pub same_outer3 : outer3 K d t ≡ outer3 K c s
  unfolding outer3
  same_outer3 = rw (e.same_y, e.same_t)

  -- the neighbour's inner point: the two refined points change places
  back_n : N K d t ≡ round (pos 3 *ℤ X K c s +ℤ pos 3 *ℤ Y K c s +ℤ K.point d -ℤ K.point c) (pos 6)
  back_n = rw (e.same_x, e.same_y, e.back) at (N-is K d t)

  here_n : N K c s ≡ round (pos 3 *ℤ X K c s +ℤ pos 3 *ℤ Y K c s +ℤ K.point c -ℤ K.point d) (pos 6)
  here_n = rw e.there at (N-is K c s)

  pub first_within : InBounds (first (H K c s) (T K c s) (X K c s) (Y K c s) (C K c s) (H K c s) (a0 K c s) (a0 K d t))
  first_within =
      first_core (H K c s) (T K c s) (X K c s) (Y K c s) (C K c s) (X K c (at_head s)) (X K d (at_head t))
      (outer1 K c s) (outer1 K c (at_head s)) (outer1 K d (at_head t)) (a0 K c s) (a0 K d t)
      (half _ _ _ tt (outer1_is K c s)) (half _ _ _ tt (rw (head_shared K c s) at (outer1_is K c (at_head s))))
      (half _ _ _ tt (rw (head_shared K d t, e.same_h) at (outer1_is K d (at_head t))))
      (half _ _ _ tt (a0_is K c s)) (half _ _ _ tt (rw same_outer1 at (a0_is K d t))) e.head_rule

  pub second_within : InBounds (second (H K c s) (T K c s) (X K c s) (Y K c s) (C K c s) (outer1 K c s) (a1 K c s) (a1 K d t))
  second_within =
      second_core (H K c s) (T K c s) (X K c s) (Y K c s) (C K c s) (K.point c) (K.point d) (X K c (at_head s)) (X K d (at_head t))
      (N K c s) (N K d t) (outer1 K c s) (a1 K c s) (a1 K d t)
      (half _ _ _ tt (outer1_is K c s)) (half _ _ _ tt here_n) (half _ _ _ tt back_n)
      (half _ _ _ tt (a1_is K c s)) (half _ _ _ tt (rw (e.same_c, e.same_h, e.same_x, e.same_y) at (a1_is K d t))) e.head_rule

  pub third_within : InBounds (third (H K c s) (T K c s) (X K c s) (Y K c s) (C K c s) (outer2 K c s) (a2 K c s) (a2 K d t))
  third_within =
      third_core (H K c s) (T K c s) (X K c s) (Y K c s) (C K c s) (K.point c) (K.point d) (Y K c (at_tail s)) (Y K d (at_tail t))
      (N K c s) (N K d t) (outer2 K c s) (a2 K c s) (a2 K d t)
      (half _ _ _ tt (outer2_is K c s)) (half _ _ _ tt here_n) (half _ _ _ tt back_n)
      (half _ _ _ tt (a2_is K c s)) (half _ _ _ tt (rw (e.same_c, e.same_t, e.same_y) at (a2_is K d t))) e.tail_rule

  pub fourth_within : InBounds (fourth (H K c s) (T K c s) (X K c s) (Y K c s) (C K c s) (outer3 K c s) (a3 K c s) (a3 K d t))
  fourth_within =
      fourth_core (H K c s) (T K c s) (X K c s) (Y K c s) (C K c s) (Y K c (at_tail s)) (Y K d (at_tail t))
      (outer3 K c s) (outer3 K c (at_tail s)) (outer3 K d (at_tail t)) (a3 K c s) (a3 K d t)
      (half _ _ _ tt (outer3_is K c s)) (half _ _ _ tt (rw (tail_shared K c s) at (outer3_is K c (at_tail s))))
      (half _ _ _ tt (rw (tail_shared K d t, e.same_t) at (outer3_is K d (at_tail t))))
      (half _ _ _ tt (a3_is K c s)) (half _ _ _ tt (rw same_outer3 at (a3_is K d t))) e.tail_rule
