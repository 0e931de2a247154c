-- Each value of a net is the rounding of a sum over a divisor (`outer1_is` ..); `within_half_is` of rounding makes of it that the value is off by at most half.
-- Nothing else of rounding is used for sizes and borders.
use mathlib.Core.Path.{◌≡◌, refl}
use Prim.Native.Nat.{ℕ, ◌*◌}
use lib.IntN.{ℤ, pos, ◌+ℤ◌, ◌-ℤ◌, ◌*ℤ◌}
use Rattle.paper.specs.Numbers.{round, rounded}
use Rattle.paper.specs.Refined.{RefinedMesh}
use Rattle.paper.specs.Net.{Side, neighbour, at_head, at_tail, opposite, H, T, X, Y, N, C, outer1, outer2, outer3, a0, a1, a2, a3, middle}
use Rattle.paper.specs.Cosines.{unit}

-- what the second and the third a point are divided out of; S is 2^30, S3 and S4 three and four times that
abbrev pub SecondRow : ℤ → ℤ → ℤ → ℤ → ℤ → ℤ → ℤ → ℤ → ℤ
SecondRow S S4 C H X Y X* N = C *ℤ H +ℤ pos 3 *ℤ (S -ℤ C) *ℤ X +ℤ pos 2 *ℤ C *ℤ Y +ℤ S *ℤ X* +ℤ S4 *ℤ N

abbrev pub ThirdRow : ℤ → ℤ → ℤ → ℤ → ℤ → ℤ → ℤ → ℤ → ℤ
ThirdRow S3 S S4 C T Y Y* N = (S3 -ℤ C) *ℤ Y +ℤ C *ℤ T +ℤ S4 *ℤ N +ℤ S *ℤ Y*

module _ (K : RefinedMesh rounded) (c : ℕ) (s : Side) where
  abbrev pub second_sum : ℤ
  second_sum = SecondRow (pos unit) (pos (4 * unit)) (C K c s) (H K c s) (X K c s) (Y K c s) (X K c (at_head s)) (N K c s)

  abbrev pub third_sum : ℤ
  third_sum = ThirdRow (pos (3 * unit)) (pos unit) (pos (4 * unit)) (C K c s) (T K c s) (Y K c s) (Y K c (at_tail s)) (N K c s)

-- ---- what each value is the rounding of
module _ (K : RefinedMesh rounded) (c : ℕ) (s : Side) where
  pub outer1_is : outer1 K c s ≡ round (H K c s +ℤ pos 3 *ℤ X K c s) (pos 4)
  unfolding outer1
  outer1_is = refl

  pub outer2_is : outer2 K c s ≡ round (X K c s +ℤ Y K c s) (pos 2)
  unfolding outer2
  outer2_is = refl

  pub outer3_is : outer3 K c s ≡ round (pos 3 *ℤ Y K c s +ℤ T K c s) (pos 4)
  unfolding outer3
  outer3_is = refl

  pub N-is : N K c s ≡ round (pos 3 *ℤ X K c s +ℤ pos 3 *ℤ Y K c s +ℤ K.point c -ℤ K.point (neighbour K.corners c s)) (pos 6)
  unfolding N
  N-is = refl

  pub a0_is : a0 K c s ≡ round (outer1 K c s +ℤ outer1 K c (at_head s)) (pos 2)
  unfolding a0
  a0_is = refl

  pub a1_is : a1 K c s ≡ round (second_sum K c s) (pos (8 * unit))
  unfolding a1
  a1_is = refl

  pub a2_is : a2 K c s ≡ round (third_sum K c s) (pos (8 * unit))
  unfolding a2
  a2_is = refl

  pub a3_is : a3 K c s ≡ round (outer3 K c s +ℤ outer3 K c (at_tail s)) (pos 2)
  unfolding a3
  a3_is = refl

  pub middle_is : middle K c s
      ≡ round
      (pos 14 *ℤ N K c s +ℤ pos 2 *ℤ (N K c (opposite s) -ℤ N K c (at_head s) -ℤ N K c (at_tail s))
      +ℤ pos 3 *ℤ (X K c (at_head s) +ℤ Y K c (at_tail s)) -ℤ H K c s -ℤ T K c s) (pos 16)
  unfolding middle
  middle_is = refl
