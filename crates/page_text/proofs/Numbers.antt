-- A number read from a line, digit by digit, and the space before it.
use mathlib.Core.Path.{◌≡◌, refl, sym, ap, subst, ◌∙◌}
use Rattle.std.specs.Prelude.{Some, None}
use mathlib.Core.List.{List, [], ◌∷◌, ◌++◌, append_assoc}
use mathlib.Core.Logic.{◌⊎◌, inl, inr, ⊎_elim}
use Prim.Native.Nat.{ℕ, zero, suc, ◌+◌, ◌*◌, ◌-◌, ◌<◌, ◌≤◌}
use native.Mathlib.Numerals.{add-one}
use native.Mathlib.Omega.{arith}
use lib.ListN.{length, drop, get_or, length-append, drop_of_length-le}
use lib.Seq.{drop-cons}
use Rattle.page_text.specs.Reading.{Digit, Digits, NoDigit, value_after, DigitsPassed, DigitsRead, SpacedRead}
use Rattle.page_text.specs.declared.ReadNumber.{ReadNumber}
use Rattle.page_text.proofs.Digits.{one_digit_more, value_append, value_grows, longest, same_split}

-- ---- what follows the digits
pub ended_here : (line : List ℕ) (at : ℕ) → at < length line → (Digit (get_or line at 0) → ⊥) → NoDigit (drop at line)
unfolding NoDigit
ended_here line at h n = subst NoDigit (sym (drop-cons line at 0 h)) n

pub ended_end : (line : List ℕ) (at : ℕ) → length line ≤ at → NoDigit (drop at line)
unfolding NoDigit
ended_end line at h = subst NoDigit (sym (drop_of_length-le line h)) tt

-- ---- digits
pub passed_none : (line : List ℕ) (from : ℕ) → from ≤ length line → DigitsPassed line from from 0
unfolding Digits value_after
passed_none line from h =
    record { passed = []; split = refl; digits = tt; value_is = refl; onward = omega arith; inside = h; within = omega arith }

module _ (line : List ℕ) (from at value : ℕ) (h : at < length line) (d : Digit (get_or line at 0)) (p : DigitsPassed line from at value) where
  one_more_lem : List ℕ
  one_more_lem = p.passed ++ (get_or line at 0 ∷ [])

  split_more : drop from line ≡ one_more_lem ++ drop (suc at) line
  unfolding one_more_lem
  split_more =
      p.split ∙ ap (λ (l : List ℕ). p.passed ++ l) (drop-cons line at 0 h)
      ∙ sym (append_assoc p.passed (get_or line at 0 ∷ []) (drop (suc at) line))

  value_more : value_after 0 one_more_lem ≡ 10 * value + (get_or line at 0 - 48)
  unfolding one_more_lem value_after
  value_more = value_append 0 p.passed (get_or line at 0 ∷ []) ∙ ap (λ (n : ℕ). 10 * n + (get_or line at 0 - 48)) p.value_is

  digits_more : Digits one_more_lem
  unfolding one_more_lem
  digits_more = one_digit_more p.passed (get_or line at 0) p.digits d

  pub passed_more : value ≤ 1844674407370955160 → DigitsPassed line from (at + 1) (10 * value + (get_or line at 0 - 48))
  unfolding one_more_lem
  passed_more m = record {
    passed = one_more_lem;
    split = split_more ∙ ap (λ (n : ℕ). one_more_lem ++ drop n line) (sym (add-one at));
    digits = digits_more;
    value_is = value_more;
    onward = omega (arith, length-append p.passed (get_or line at 0 ∷ []), p.onward);
    inside = omega arith;
    within = omega (arith, d.1);
  }

  -- a number to which no digit can be appended, and the digit after it
  pub digits_large : 1844674407370955160 < value → DigitsRead line from None
  digits_large m = record {
    found = tt;
    none = λ f digits rest q g w.
        let l = longest one_more_lem digits (drop (suc at) line) rest digits_more w (sym q ∙ split_more) in
        omega (arith, value_more, value_grows (value_after 0 one_more_lem) l.0, ap (value_after 0) l.1 ∙ value_append 0 one_more_lem l.0);
  }

some_none : {A : Type 0} {x : A} → Some x ≡ None → ⊥
some_none e = cc

pub digits_found : (line : List ℕ) (from : ℕ) (r : ReadNumber) → DigitsPassed line from r.end r.value → NoDigit (drop r.end line)
    → DigitsRead line from (Some r)
digits_found line from r p e = record { found = (p, e); none = λ f. absurd (some_none f) }

-- ---- a space, and digits
pub number_past : (line : List ℕ) (at : ℕ) → length line ≤ at → SpacedRead line at None
number_past line at h = record { found = tt; none = λ f digits rest n q d w. no_bytes (sym (drop_of_length-le line h) ∙ q) }
  where
    no_bytes : {x : ℕ} {l : List ℕ} → [] ≡ x ∷ l → ⊥
    no_bytes q = let z : ◌≡◌ {A = ℕ} 0 1 = cc in omega arith

module _ (line : List ℕ) (at : ℕ) (h : at < length line) where
  first : (x : ℕ) (l : List ℕ) → drop at line ≡ x ∷ l → get_or line at 0 ≡ x
  first x l q = let e = drop-cons line at 0 h in cc

  later : (x : ℕ) (l : List ℕ) → drop at line ≡ x ∷ l → drop (at + 1) line ≡ l
  later x l q = let e = drop-cons line at 0 h in let f : drop (suc at) line ≡ l = cc in ap (λ (n : ℕ). drop n line) (add-one at) ∙ f

  pub number_other : (get_or line at 0 ≡ 32 → ⊥) → SpacedRead line at None
  number_other n = record { found = tt; none = λ f digits rest k q d w. n (first 32 (digits ++ rest) q) }

  pub number_large : DigitsRead line (at + 1) None → SpacedRead line at None
  number_large d = record {
    found = tt;
    none = λ f digits rest k q g w. let l = d.none refl digits rest (later 32 (digits ++ rest) q) g.digits w in omega (arith, l, g.value, g.within);
  }

  module _ (s : ReadNumber) (d : DigitsRead line (at + 1) (Some s)) where
    pub number_here : get_or line at 0 ≡ 32 → (s.end ≡ at + 1 → ⊥) → SpacedRead line at (Some s)
    number_here space n = let p = d.found.0 in record {
      found = record {
        text = p.passed;
        split = drop-cons line at 0 h ∙ ap (λ (x : ℕ). x ∷ drop (suc at) line) space
            ∙ ap (λ (l : List ℕ). 32 ∷ l) (ap (λ (k : ℕ). drop k line) (sym (add-one at)) ∙ p.split);
        decimal = record {
          some = ⊎_elim (λ (z : length p.passed ≡ 0). absurd (n (omega (arith, p.onward)))) (λ (z : 0 < length p.passed). z)
              (nothing_or_some (length p.passed));
          digits = p.digits;
          value = p.value_is;
          within = p.within;
        };
        ends = d.found.1;
        inside = p.inside;
      };
      none = λ f. absurd (some_none f);
    }
      where
        nothing_or_some : (n : ℕ) → (n ≡ 0) ⊎ (0 < n)
        nothing_or_some zero = inl refl
        nothing_or_some (suc n) = inr (omega arith)

    pub number_none : s.end ≡ at + 1 → SpacedRead line at None
    number_none z = record {
      found = tt;
      none = λ f digits rest k q g w.
          let p = d.found.0 in
          let one = same_split p.passed digits (drop s.end line) rest p.digits g.digits d.found.1 w (sym p.split ∙ later 32 (digits ++ rest) q) in
          omega (arith, ap length one.0, g.some, p.onward);
    }
