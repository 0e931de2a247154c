-- A word's digits: whether all are digits, and their value, which nine of them keep below 10^9; and the word with its minus.
use mathlib.Core.Path.{◌≡◌, refl, sym, ap, ◌∙◌}
use mathlib.Core.Bool.{Bool, true, false, not, ◌&&◌}
use mathlib.Core.List.{List, [], ◌∷◌}
use Prim.Native.Nat.{ℕ, zero, suc, ◌+◌, ◌-◌, ◌*◌, ◌<◌, ◌≤◌}
use native.Mathlib.Omega.{arith}
use native.Mathlib.Numerals.{add-one}
use lib.Dec.{eqb, ltb}
use lib.ListN.{length, get_or, take, drop, drop_of_length-le}
use lib.Seq.{drop-cons}
use lib.IntN.{ℤ, pos, neg_ℤ, ◌-ℤ◌, +ℤ_idl}
use lib.Pointwise.{pointwise}
use Rattle.std.proofs.Math.Bool.{and-true}
use mir.Syntax.{w32}
use mir.Val.{SFits, to_z, of_z}
use mir.ValLaws.{to_z_pos, to_z-of_z}
use borrow.Author.Tests.{le-ltb, ltb-false, not-true}
use Rattle.paper.specs.Faults.{outside}
use Rattle.mesh.proofs.Scans.{and_left, clash}
use Rattle.mesh.proofs.Ranges.{or_none, none_left, none_right}
use Rattle.off_words.specs.digits.Decimal.{is_decimal}
use Rattle.paper.specs.Off.{is_minus, digits_of, all_digits, is_number, value_after, value_of}

-- ---- a number within two others, or not
module _ (low high n : ℕ) where
  between : low ≤ n → n ≤ high → not (outside low high n) ≡ true
  between h l = ap not (or_none (ltb n low) (ltb high n) (le-ltb n low h) (le-ltb high n l))

  pub within : not (outside low high n) ≡ true → (low ≤ n) × (n ≤ high)
  within e =
      let o = not-true (outside low high n) e in
      (ltb-false n low (none_left (ltb n low) _ o), ltb-false high n (none_right (ltb n low) _ o))

-- ---- digits from a place on
module _ (digits : List ℕ) (i : ℕ) (h : i < length digits) where
  all_at : all_digits (drop i digits) ≡ not (outside 48 57 (get_or digits i 0)) && all_digits (drop (suc i) digits)
  all_at = rw (drop-cons digits i 0 h)

  pub all_on : 48 ≤ get_or digits i 0 → get_or digits i 0 ≤ 57 → all_digits (drop i digits) ≡ all_digits (drop (i + 1) digits)
  all_on l m = rw (add-one) (all_at ∙ rw (between 48 57 (get_or digits i 0) l m))

  pub decimal_on : (n : ℕ) → value_after n (drop i digits) ≡ value_after (10 * n + (get_or digits i 0 - 48)) (drop (i + 1) digits)
  unfolding value_after
  decimal_on n = rw (add-one, drop-cons digits i 0 h)

pub all_decimal : (digits : List ℕ) (i : ℕ) → length digits ≤ i → all_digits digits ≡ all_digits (drop i digits) → not (outside 1 9 (length digits)) ≡ true
    → is_decimal digits ≡ true
all_decimal digits i h e l = rw (e, drop_of_length-le digits h, l)

pub decimal_none : (n : ℕ) (digits : List ℕ) (i : ℕ) → length digits ≤ i → value_after n (drop i digits) ≡ n
unfolding value_after
decimal_none n digits i h = rw (drop_of_length-le digits h)

-- ---- what so many digits keep below
unfoldable pub tens : ℕ → ℕ
tens zero = 1
tens (suc k) = 10 * tens k

pub tens_start : 0 < tens 0
unfolding tens
tens_start = omega arith

tens_step : (k : ℕ) → tens (k + 1) ≡ 10 * tens k
unfolding tens
tens_step k = rw (add-one k)

tens_more : (d k : ℕ) → tens k ≤ tens (k + d)
tens_more zero k = let q : k + 0 ≡ k = omega arith in omega (arith, ap tens q)
tens_more (suc d) k =
    let q : k + suc d ≡ k + d + 1 = omega arith in
    omega (arith, ap tens q, tens_step (k + d), tens_more d k)

eight : tens 8 ≡ 100000000
unfolding tens
eight = refl

nine : tens 9 ≡ 1000000000
unfolding tens
nine = refl

pub below_eight : (n k : ℕ) → n < tens k → k ≤ 8 → n < 100000000
below_eight n k h l = let q : k + (8 - k) ≡ 8 = omega arith in omega (arith, tens_more (8 - k) k, ap tens q, eight)

pub below_nine : (n k : ℕ) → n < tens k → k ≤ 9 → n < 1000000000
below_nine n k h l = let q : k + (9 - k) ≡ 9 = omega arith in omega (arith, tens_more (9 - k) k, ap tens q, nine)

pub tens_on : (n k d : ℕ) → n < tens k → d ≤ 9 → 10 * n + d < tens (k + 1)
tens_on n k d h l = omega (arith, tens_step k)

-- ---- the word: its digits, after a minus or from its beginning
pub after_minus : (word digits : List ℕ) → pointwise eqb (take 1 word) (45 ∷ []) ≡ true → digits ≡ drop 1 word
    → (is_minus word ≡ true) × (digits ≡ digits_of word)
after_minus [] digits e q = absurd (clash e refl)
after_minus (b ∷ word) digits e q = let h : eqb b 45 ≡ true = and_left (eqb b 45) true e in (h, q ∙ sym (rw h))

pub no_minus : (word : List ℕ) → pointwise eqb (take 1 word) (45 ∷ []) ≡ false → (is_minus word ≡ false) × (word ≡ digits_of word)
no_minus [] e = (refl, refl)
no_minus (b ∷ word) e = let h : eqb b 45 ≡ false = sym (and-true (eqb b 45)) ∙ e in (h, sym (rw h))

module _ (word digits : List ℕ) (q : digits ≡ digits_of word) where
  pub number_is : (b : Bool) → is_decimal digits ≡ b → is_number word ≡ b
  unfolding is_number
  number_is b e = ap is_decimal (sym q) ∙ e

  pub negative_is : is_minus word ≡ true → (n : ℕ) → n ≡ value_after 0 digits → neg_ℤ (pos n) ≡ value_of word
  unfolding value_of
  negative_is m n e = rw (m, e, q)

  pub positive_is : is_minus word ≡ false → (n : ℕ) → n ≡ value_after 0 digits → pos n ≡ value_of word
  unfolding value_of
  positive_is m n e = rw (m, e, q)

-- ---- a number as a signed one, and taken from zero
pub positive_value : (n : ℕ) (z : ℤ) → n < 1000000000 → z ≡ to_z w32 n → to_z w32 (of_z w32 z) ≡ pos n
positive_value n z h e = rw (e, to_z_pos w32 n (omega arith)) (to_z-of_z w32 (pos n) (record { sfits = omega arith }))

negative_fits : (n : ℕ) → n < 1000000000 → SFits w32 (neg_ℤ (pos n))
negative_fits zero h = record { sfits = omega arith }
negative_fits (suc n) h = record { sfits = omega arith }

pub negative_value : (n : ℕ) (z : ℤ) → n < 1000000000 → z ≡ to_z w32 n → to_z w32 (of_z w32 (pos 0 -ℤ to_z w32 (of_z w32 z))) ≡ neg_ℤ (pos n)
negative_value n z h e = rw (positive_value n z h e, +ℤ_idl (neg_ℤ (pos n))) (to_z-of_z w32 (neg_ℤ (pos n)) (negative_fits n h))
