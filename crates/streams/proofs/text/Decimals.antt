-- The digits that `io` gives are the decimal number, which has at most as many digits as it may; a signed number by its size.
use mathlib.Core.Path.{◌≡◌, refl, sym, ap, subst, ◌∙◌}
use mathlib.Core.Bool.{true, false, true≢false}
use mathlib.Core.List.{[], ◌∷◌}
use mathlib.Core.Logic.{⊎_elim}
use Prim.Native.Nat.{ℕ, zero, suc, ◌+◌, ◌-◌, ◌/◌, ◌%◌, ◌^◌, ◌<◌, ◌≤◌}
use native.Mathlib.Nat.{pow-succ', pow-le-pow_right}
use native.Mathlib.Omega.{arith}
use lib.Dec.{ltb}
use lib.ListN.{length, length-append}
use lib.IntN.{ℤ, pos, negsuc, nat_abs}
use lib.Signed.{lt_z}
use mir.Syntax.{w64}
use mir.Val.{Fits}
use borrow.Author.Tests.{ltb-true, ltb-false, lt-ltb, le-ltb}
use Rattle.io.specs.Digits.{hex_digit_ascii, last_digits, IsDigitCount}
use Rattle.mesh.proofs.Scans.{ways}
use Rattle.streams.specs.text.Text.{decimal_within, decimal, signed_decimal}

glyph_digit : (d : ℕ) → d < 10 → hex_digit_ascii d ≡ 48 + d
glyph_digit d h = rw (lt-ltb d 10 h)

one_less : (k : ℕ) → suc k - 1 ≡ k
one_less k = omega arith

-- the last digit away
fewer : (n j : ℕ) → IsDigitCount 10 1 n (suc (suc j)) → IsDigitCount 10 1 (n / 10) (suc j)
fewer n j f =
    let p = pow-succ' 10 (suc j) in
    let q = pow-succ' 10 j in
    let above = f.1 in
    let below = subst (λ (k : ℕ). 10 ^ k ≤ n) (one_less (suc j)) (f.2 (omega arith)) in
    let ten : 10 ^ j ≤ n / 10 = omega arith in
    (omega arith, omega arith, λ h. subst (λ (k : ℕ). 10 ^ k ≤ n / 10) (sym (one_less j)) ten)

above_ten : (n j : ℕ) → IsDigitCount 10 1 n (suc (suc j)) → 10 ≤ n
above_ten n j f =
    let q = pow-succ' 10 j in
    let one = pow_positive j in
    let below = subst (λ (k : ℕ). 10 ^ k ≤ n) (one_less (suc j)) (f.2 (omega arith)) in
    omega arith
  where
    pow_positive : (k : ℕ) → 1 ≤ 10 ^ k
    pow_positive zero = omega arith
    pow_positive (suc k) = let h = pow_positive k in let e = pow-succ' 10 k in omega arith

pub digits_decimal : (k most n : ℕ) → IsDigitCount 10 1 n k → k ≤ most → last_digits 10 k n ≡ decimal_within most n
unfolding decimal_within
digits_decimal zero most n f h = absurd (let e = f.0 in omega arith)
digits_decimal (suc zero) zero n f h = absurd (omega arith)
digits_decimal (suc zero) (suc most) n f h =
    let l : n < 10 = f.1 in
    let e : n % 10 ≡ n = omega arith in
    rw (lt-ltb n 10 l) (ap (λ (d : ℕ). d ∷ []) (ap hex_digit_ascii e ∙ glyph_digit n l))
digits_decimal (suc (suc j)) zero n f h = absurd (omega arith)
digits_decimal (suc (suc j)) (suc most) n f h =
    let l : n % 10 < 10 = omega arith in
    rw (le-ltb n 10 (above_ten n j f), digits_decimal (suc j) most (n / 10) (fewer n j f) (omega arith), glyph_digit (n % 10) l)

-- a number of 64 bits has at most 20 digits
pub twenty_digits : (n k : ℕ) → Fits w64 n → IsDigitCount 10 1 n k → k ≤ 20
twenty_digits n k h f = ⊎_elim (λ e. absurd (over (ltb-true 20 k e))) (ltb-false 20 k) (ways (ltb 20 k))
  where
    over : 20 < k → ⊥
    over l =
        let below = f.2 (omega arith) in
        let power : 100000000000000000000 ≤ 10 ^ (k - 1) = pow-le-pow_right {n = 10} (omega arith) {i = 20} {j = k - 1} (omega arith) in
        let small = h.fits in
        omega arith

pub decimal_short : (most n : ℕ) → length (decimal_within most n) ≤ most
unfolding decimal_within
decimal_short zero n = omega arith
decimal_short (suc most) n = ⊎_elim few (many (decimal_short most (n / 10))) (ways (ltb n 10))
  where
    few : ltb n 10 ≡ true → length (decimal_within (suc most) n) ≤ suc most
    few e = rw e (omega arith)

    many : length (decimal_within most (n / 10)) ≤ most → ltb n 10 ≡ false → length (decimal_within (suc most) n) ≤ suc most
    many h e = let l = length-append (decimal_within most (n / 10)) ((48 + n % 10) ∷ []) in rw e (omega arith)

-- ---- a signed number, by its size
pub signed_below : (z : ℤ) → lt_z z (pos 0) ≡ true → 45 ∷ decimal (nat_abs z) ≡ signed_decimal z
signed_below (pos a) e = absurd (let k : a < 0 = ltb-true a 0 e in omega arith)
signed_below (negsuc a) e = refl

pub signed_above : (z : ℤ) → lt_z z (pos 0) ≡ false → decimal (nat_abs z) ≡ signed_decimal z
signed_above (pos a) e = refl
signed_above (negsuc a) e = absurd (true≢false e)
