-- What each formula of a quad-net gives for numbers of the sizes it is given, q the rounded value: cited where a formula is computed and where its
-- value at a corner is told.
use Prim.Native.Nat.{◌*◌, ◌^◌, ◌≤◌}
use native.Mathlib.Omega.{arith}
use lib.IntN.{ℤ, pos, nat_abs, ◌+ℤ◌, ◌-ℤ◌, ◌*ℤ◌}
use Rattle.numbers.proofs.Poly.{over, poly}
use Rattle.numbers.proofs.Laws.{abs_mul_le}
use Rattle.paper.specs.Cosines.{unit}
use Rattle.numbers.specs.WithinHalf.{WithinHalf}
use Rattle.surface.specs.Sizes.{RefinedSize, FaceSize, ValueSize, WrittenSize, CosineSize}
use Rattle.surface.proofs.Roundings.{SecondRow, ThirdRow}

-- ---- refined faces of four sides and of three
pub mean_refined : (a b c d q : ℤ) → RefinedSize a × RefinedSize b × RefinedSize c × RefinedSize d → WithinHalf (a +ℤ b +ℤ c +ℤ d) (pos 4) q → RefinedSize q
mean_refined = over 5 _ λ ρ. simp (poly, ρ) (omega arith)

pub toward_refined : (a b c d q : ℤ) → RefinedSize a × RefinedSize b × RefinedSize c × RefinedSize d
    → WithinHalf (pos 5 *ℤ a +ℤ pos 5 *ℤ b +ℤ c +ℤ d) (pos 12) q → RefinedSize q
toward_refined = over 5 _ λ ρ. simp (poly, ρ) (omega arith)

pub mean_of_three_refined : (a b c q : ℤ) → RefinedSize a × RefinedSize b × RefinedSize c → WithinHalf (a +ℤ b +ℤ c) (pos 3) q → RefinedSize q
mean_of_three_refined = over 4 _ λ ρ. simp (poly, ρ) (omega arith)

pub toward_of_three_refined : (a b c q : ℤ) → RefinedSize a × RefinedSize b × RefinedSize c → WithinHalf (pos 4 *ℤ a +ℤ pos 4 *ℤ b +ℤ c) (pos 9) q → RefinedSize q
toward_of_three_refined = over 4 _ λ ρ. simp (poly, ρ) (omega arith)

-- ---- sums of small weights
pub half_written : (a b q : ℤ) → WrittenSize a × WrittenSize b → WithinHalf (a +ℤ b) (pos 2) q → WrittenSize q
half_written = over 3 _ λ ρ. simp (poly, ρ) (omega arith)

pub quarter_written : (e x q : ℤ) → ValueSize e × ValueSize x → WithinHalf (e +ℤ pos 3 *ℤ x) (pos 4) q → WrittenSize q
quarter_written = over 3 _ λ ρ. simp (poly, ρ) (omega arith)

pub inner_value : (x y v w q : ℤ) → FaceSize x × FaceSize y × RefinedSize v × RefinedSize w → WithinHalf (pos 3 *ℤ x +ℤ pos 3 *ℤ y +ℤ v -ℤ w) (pos 6) q → ValueSize q
inner_value = over 5 _ λ ρ. simp (poly, ρ) (omega arith)

pub middle_written : (n o g l x y h t q : ℤ)
    → ValueSize n × ValueSize o × ValueSize g × ValueSize l × ValueSize x × ValueSize y × ValueSize h × ValueSize t
    → WithinHalf (pos 14 *ℤ n +ℤ pos 2 *ℤ (o -ℤ g -ℤ l) +ℤ pos 3 *ℤ (x +ℤ y) -ℤ h -ℤ t) (pos 16) q → WrittenSize q
middle_written = over 9 _ λ ρ. simp (poly, ρ) (omega arith)

-- ---- the second and the third a point: their products with c, with 1 - c and with 3 - c, times 2^30
cosine_abs : (c : ℤ) → CosineSize c → nat_abs c ≤ unit
cosine_abs = over 1 _ λ ρ. simp (poly, ρ) (omega arith)

one_less : (c : ℤ) → CosineSize c → nat_abs (pos unit -ℤ c) ≤ 3 * 2 ^ 29
one_less = over 1 _ λ ρ. simp (poly, ρ) (omega arith)

three_less : (c : ℤ) → CosineSize c → nat_abs (pos (3 * unit) -ℤ c) ≤ 7 * 2 ^ 29
three_less = over 1 _ λ ρ. simp (poly, ρ) (omega arith)

abbrev pub SecondGiven : ℤ → ℤ → ℤ → ℤ → ℤ → ℤ → Type 0
SecondGiven c h x y s n = CosineSize c × ValueSize h × ValueSize x × ValueSize y × ValueSize s × ValueSize n

abbrev pub SecondProducts : ℤ → ℤ → ℤ → ℤ → Type 0
SecondProducts c h x y =
    (nat_abs (c *ℤ h) ≤ unit * 2 ^ 25) × (nat_abs ((pos unit -ℤ c) *ℤ x) ≤ 3 * 2 ^ 29 * 2 ^ 25) × (nat_abs (c *ℤ y) ≤ unit * 2 ^ 25)

pub second_products : (c h x y s n : ℤ) → SecondGiven c h x y s n → SecondProducts c h x y
second_products c h x y s n g = (
  abs_mul_le c h unit (2 ^ 25) (cosine_abs c g.0) g.1,
  abs_mul_le (pos unit -ℤ c) x (3 * 2 ^ 29) (2 ^ 25) (one_less c g.0) g.2,
  abs_mul_le c y unit (2 ^ 25) (cosine_abs c g.0) g.3,
)

pub second_written : (c h x y s n q : ℤ) → SecondGiven c h x y s n → WithinHalf (SecondRow (pos unit) (pos (4 * unit)) c h x y s n) (pos (8 * unit)) q → WrittenSize q
second_written c h x y s n q g = from c h x y s n q g (second_products c h x y s n g)
  where
    from : (c h x y s n q : ℤ) → SecondGiven c h x y s n → SecondProducts c h x y
        → WithinHalf (SecondRow (pos unit) (pos (4 * unit)) c h x y s n) (pos (8 * unit)) q → WrittenSize q
    from = over 7 _ λ ρ. simp (poly, ρ) (omega arith)

abbrev pub ThirdGiven : ℤ → ℤ → ℤ → ℤ → ℤ → Type 0
ThirdGiven c t y s n = CosineSize c × ValueSize t × ValueSize y × ValueSize s × ValueSize n

abbrev pub ThirdProducts : ℤ → ℤ → ℤ → Type 0
ThirdProducts c t y = (nat_abs ((pos (3 * unit) -ℤ c) *ℤ y) ≤ 7 * 2 ^ 29 * 2 ^ 25) × (nat_abs (c *ℤ t) ≤ unit * 2 ^ 25)

pub third_products : (c t y s n : ℤ) → ThirdGiven c t y s n → ThirdProducts c t y
third_products c t y s n g =
    (abs_mul_le (pos (3 * unit) -ℤ c) y (7 * 2 ^ 29) (2 ^ 25) (three_less c g.0) g.2, abs_mul_le c t unit (2 ^ 25) (cosine_abs c g.0) g.1)

pub third_written : (c t y s n q : ℤ) → ThirdGiven c t y s n
    → WithinHalf (ThirdRow (pos (3 * unit)) (pos unit) (pos (4 * unit)) c t y s n) (pos (8 * unit)) q → WrittenSize q
third_written c t y s n q g = from c t y s n q g (third_products c t y s n g)
  where
    from : (c t y s n q : ℤ) → ThirdGiven c t y s n → ThirdProducts c t y
        → WithinHalf (ThirdRow (pos (3 * unit)) (pos unit) (pos (4 * unit)) c t y s n) (pos (8 * unit)) q → WrittenSize q
    from = over 6 _ λ ρ. simp (poly, ρ) (omega arith)
