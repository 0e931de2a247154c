-- Whole numbers up to 2^24, and multiples of 4,096 up to 2^31, are values of an f32: the float of such a number has its value, reads back as
-- it, and is the number's f64 as well.
use mathlib.Core.Path.{◌≡◌, refl, sym, ap, ◌∙◌, subst}
use mathlib.Core.Bool.{Bool, true, false, not, ◌&&◌}
use Prim.Native.Nat.{ℕ, zero, suc, ◌+◌, ◌-◌, ◌*◌, ◌/◌, ◌^◌, ◌≤◌, ◌<◌, min}
use native.Mathlib.Nat.{mul-div_cancel, mul-one, mul_assoc, mul_comm, div-add-mod}
use native.Mathlib.Omega.{arith}
use lib.Dec.{T}
use lib.IntN.{ℤ, pos, negsuc, neg_ℤ, ◌+ℤ◌, ◌-ℤ◌, ◌*ℤ◌, nat_abs}
use lib.Pow.{shl_lt}
use lib.Signed.{◌≤ℤ◌, ◌<ℤ◌}
use lib.Ieee as Ieee
use lib.Ieee.{Float, fin, Format, binary32, binary64, prec, of_int, to_signed, fits, is_nan}
use lib.Ieee.Back.{round_whole, whole_unique}
use lib.Ieee.Exact.{HasValue, round_exact}
use lib.Ieee.Fits.{of_int-fits, fits_widens, down_pos, and_i}
use Rattle.paper.specs.Numbers.{floor}
use Rattle.paper.specs.Floats.{far_first, far_second, read_back, FarPair}
use Rattle.numbers.proofs.Diff.{diff}
use Rattle.numbers.proofs.Poly.{over, poly}
use Rattle.numbers.proofs.Floor.{floor_is}
use Rattle.floats.specs.Exact.{FloatOf}

-- the float of z in the format f has the value z
abbrev pub Carried : Format → ℤ → Type 0
Carried f (pos n) = HasValue (of_int f (pos n)) false n 1
Carried f (negsuc n) = HasValue (of_int f (negsuc n)) true (suc n) 1

-- every whole number up to 2^24 in an f32, up to 2^53 in an f64
pub whole_carried : (f : Format) (z : ℤ) → nat_abs z ≤ 2 ^ prec f → Carried f z
unfolding of_int
whole_carried f (pos n) h = round_whole f false n h
whole_carried f (negsuc n) h = round_whole f true (suc n) h

-- ---- multiples of 4,096
multiple_value : (s : Bool) (q : ℕ) → q < 2 ^ 19 → HasValue (Ieee.round binary32 s (4096 * q) 1) s (4096 * q) 1
multiple_value s q h =
    round_exact binary32 s (4096 * q) 1 q 161 (omega arith) (omega arith) (shl_lt 116 161 (omega arith))
    (ap (λ (a : ℕ). a * 2 ^ 149) (mul_comm 4096 q) ∙ mul_assoc q 4096 (2 ^ 149) ∙ sym (mul-one (q * 2 ^ 161)))

minus_carried : (n : ℕ) → 0 < n → HasValue (Ieee.round binary32 true n 1) true n 1 → Carried binary32 (neg_ℤ (pos n))
unfolding of_int
minus_carried zero h v = absurd (omega arith)
minus_carried (suc n) h v = v

pub multiple_carried : (q : ℤ) → nat_abs q < 2 ^ 19 → Carried binary32 (pos 4096 *ℤ q)
unfolding of_int
multiple_carried (pos q) h = multiple_value false q h
multiple_carried (negsuc q) h = minus_carried (4096 * suc q) (omega arith) (multiple_value true (suc q) h)

-- ---- a float that carries z reads back as z
back_plus : (x : Float) (n : ℕ) → HasValue x false n 1 → n < 2 ^ 31 → to_signed 31 x ≡ pos n
unfolding to_signed
back_plus Ieee.nan n v h = absurd v
back_plus (Ieee.inf t) n v h = absurd v
back_plus (fin true m e) n v h = let z : ◌≡◌ {A = ℕ} 0 1 = cc v.0 in absurd (omega arith)
back_plus (fin false m e) n v h =
    let k : m * Ieee.up e / Ieee.down e ≡ n =
    ap (λ (a : ℕ). a / Ieee.down e) (sym (mul-one (m * Ieee.up e)) ∙ v.1) ∙ mul-div_cancel n (down_pos e) in
    ap pos (ap (λ (a : ℕ). min a (2 ^ 31 - 1)) k ∙ omega arith)

back_minus : (x : Float) (n : ℕ) → HasValue x true (suc n) 1 → suc n < 2 ^ 31 → to_signed 31 x ≡ negsuc n
unfolding to_signed
back_minus Ieee.nan n v h = absurd v
back_minus (Ieee.inf t) n v h = absurd v
back_minus (fin false m e) n v h = let z : ◌≡◌ {A = ℕ} 0 1 = cc v.0 in absurd (omega arith)
back_minus (fin true m e) n v h =
    let k : m * Ieee.up e / Ieee.down e ≡ suc n =
    ap (λ (a : ℕ). a / Ieee.down e) (sym (mul-one (m * Ieee.up e)) ∙ v.1) ∙ mul-div_cancel (suc n) (down_pos e) in
    let l : min (suc n) (2 ^ 31) ≡ suc n = omega arith in
    ap (λ (a : ℕ). neg_ℤ (pos a)) (ap (λ (a : ℕ). min a (2 ^ 31)) k ∙ l)

back : (z : ℤ) → Carried binary32 z → nat_abs z < 2 ^ 31 → read_back (of_int binary32 z) ≡ z
back (pos n) v h = back_plus (of_int binary32 (pos n)) n v h
back (negsuc n) v h = back_minus (of_int binary32 (negsuc n)) n v h

pub float_of : (z : ℤ) → Carried binary32 z → nat_abs z < 2 ^ 31 → FloatOf z (of_int binary32 z)
float_of z v h = record { reads = back z v h; whole = sym (ap (of_int binary32) (back z v h)) }

-- ---- the f64 of a number that an f32 carries is the f32: a cast between them loses nothing
one_float : (z : ℤ) → Carried binary32 z → Carried binary64 z → of_int binary64 z ≡ of_int binary32 z
one_float (pos n) v w = whole_unique binary64 _ _ false n (of_int-fits binary64 (pos n)) (fits_widens _ (of_int-fits binary32 (pos n))) w v
one_float (negsuc n) v w = whole_unique binary64 _ _ true (suc n) (of_int-fits binary64 (negsuc n)) (fits_widens _ (of_int-fits binary32 (negsuc n))) w v

value_no_nan : (x : Float) (s : Bool) (n : ℕ) → HasValue x s n 1 → T (not (is_nan x))
unfolding is_nan
value_no_nan Ieee.nan s n v = absurd v
value_no_nan (Ieee.inf t) s n v = absurd v
value_no_nan (fin t m e) s n v = tt

no_nan : (z : ℤ) → Carried binary32 z → T (not (is_nan (of_int binary32 z)))
no_nan (pos n) v = value_no_nan _ false n v
no_nan (negsuc n) v = value_no_nan _ true (suc n) v

pub narrows : (z : ℤ) → Carried binary32 z → nat_abs z ≤ 2 ^ 53 → T (fits binary32 (of_int binary64 z) && not (is_nan (of_int binary64 z)))
narrows z v h =
    subst (λ (x : Float). T (fits binary32 x && not (is_nan x))) (sym (one_float z v (whole_carried binary64 z h)))
    (and_i (fits binary32 (of_int binary32 z)) (not (is_nan (of_int binary32 z))) (of_int-fits binary32 z) (no_nan z v))

pub narrow_float_of : (z : ℤ) → Carried binary32 z → nat_abs z < 2 ^ 31 → FloatOf z (of_int binary64 z)
narrow_float_of z v h =
    subst (FloatOf z) (sym (one_float z v (whole_carried binary64 z (omega arith)))) (float_of z v h)

-- ---- a far pair
quotient_size : (d : ℤ) → nat_abs d ≤ 2 ^ 28 → nat_abs (floor d (pos 4096)) ≤ 2 ^ 16
unfolding floor
quotient_size (pos a) h = omega (arith, div-add-mod a 4096)
quotient_size (negsuc a) h = omega (arith, div-add-mod a 4096)

pub first_carried : (d : ℤ) → nat_abs d ≤ 2 ^ 28 → Carried binary32 (far_first d)
unfolding far_first
first_carried d h = multiple_carried (floor d (pos 4096)) (omega (arith, quotient_size d h))

small : (z : ℤ) → pos 0 ≤ℤ z → z <ℤ pos 4096 → (n : ℕ) × (z ≡ pos n) × (n ≤ 4095)
small (pos n) h l = let k = simp diff at l in (n, refl, omega arith)
small (negsuc n) h l = absurd h.le

from : (h d : ℤ) → h ≤ℤ d → pos 0 ≤ℤ (d -ℤ h)
from = over 2 _ λ ρ. simp (poly, ρ) (omega arith)

below : (h d : ℤ) → d <ℤ (h +ℤ pos 4096) → (d -ℤ h) <ℤ pos 4096
below = over 2 _ λ ρ. simp (poly, ρ) (omega arith)

adds : (h d : ℤ) → h +ℤ (d -ℤ h) ≡ d
adds = over 2 _ λ ρ. simp poly (omega arith)

pub far_pair : (d : ℤ) → FarPair d (far_first d) (far_second d)
unfolding far_first far_second
far_pair d =
    let h = pos 4096 *ℤ floor d (pos 4096) in
    let f = floor_is d (pos 4096) (simp diff (omega arith)) in
    record { multiple = (floor d (pos 4096), refl); rest = small (d -ℤ h) (from h d f.0) (below h d f.1); sum = adds h d }

pub second_size : (d : ℤ) → nat_abs (far_second d) ≤ 4095
second_size d = let r = (far_pair d).rest in subst (λ (z : ℤ). nat_abs z ≤ 4095) (sym r.1) r.2

first_from_lem : (d h l : ℤ) → h +ℤ l ≡ d → nat_abs d ≤ 2 ^ 28 → nat_abs l ≤ 4095 → nat_abs h ≤ 2 ^ 28 + 4095
first_from_lem = over 3 _ λ ρ. simp poly (omega arith)

pub first_size : (d : ℤ) → nat_abs d ≤ 2 ^ 28 → nat_abs (far_first d) ≤ 2 ^ 28 + 4095
first_size d h = first_from_lem d (far_first d) (far_second d) (far_pair d).sum h (second_size d)
