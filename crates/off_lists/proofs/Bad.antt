-- Needed words: when one is bad, and the lowest bad one of a row.
use mathlib.Core.Path.{◌≡◌, refl, sym, ap, ◌∙◌}
use mathlib.Core.Bool.{true, false}
use mathlib.Core.Logic.{⊎_elim}
use mathlib.Core.List.{List, []}
use Prim.Native.Nat.{ℕ, suc, ◌+◌, ◌-◌, ◌^◌, ◌<◌, ◌≤◌}
use native.Mathlib.Omega.{arith}
use lib.Dec.{leb}
use lib.ListN.{length, get_or, get_or-eq_default}
use lib.IntN.{ℤ, pos, negsuc, nat_abs}
use mir.Syntax.{w32}
use mir.Val.{SFits}
use Rattle.std.specs.Int.{FitsUnsignedBits}
use borrow.Author.Tests.{leb-true, le-leb, lt-leb}
use Rattle.mesh.proofs.Scans.{ways, clash}
use Rattle.mesh.proofs.Ranges.{or_right}
use Rattle.mesh.proofs.Verdicts.{single_miss, or_else_fault, or_else_sound}
use Rattle.paper.specs.Faults.{sound, fault, single, ◌or_else◌, Verdict}
use Rattle.paper.specs.Off.{is_number, value_of, Kind, up_to, allowed, bad, value_at, natural_at, bad_from}

module _ (words : List (List ℕ)) (n : ℕ) where
  there : is_number (get_or words n []) ≡ true → leb (length words) n ≡ false
  unfolding is_number
  there e =
      ⊎_elim
      (λ h. absurd (clash (sym (ap is_number (get_or-eq_default words [] (leb-true (length words) n h))) ∙ e) refl))
      (λ h. h)
      (ways (leb (length words) n))

  module _ (kind : Kind) where
    pub no_number : is_number (get_or words n []) ≡ false → bad words kind n ≡ true
    unfolding bad
    no_number e = or_right (leb (length words) n) _ (rw e)

    pub serves : is_number (get_or words n []) ≡ true → allowed kind (value_of (get_or words n [])) ≡ true → bad words kind n ≡ false
    unfolding bad
    serves e f = rw (there e, e, f)

    pub not_allowed : is_number (get_or words n []) ≡ true → allowed kind (value_of (get_or words n [])) ≡ false → bad words kind n ≡ true
    unfolding bad
    not_allowed e f = or_right (leb (length words) n) _ (rw (e, f))

    pub value_is : bad words kind n ≡ false → value_at words kind n ≡ value_of (get_or words n [])
    unfolding value_at
    value_is e = rw e

    pub natural_is : bad words kind n ≡ false → natural_at words kind n ≡ nat_abs (value_of (get_or words n []))
    unfolding natural_at
    natural_is e = ap nat_abs (value_is e)

-- ---- a number from 0 to a largest
pub below_zero : (most : ℕ) (z : ℤ) → SFits w32 z → (FitsUnsignedBits 64 z → ⊥) → allowed (up_to most) z ≡ false
below_zero most (pos a) h e = let k = h.sfits in let l : a < 2 ^ 64 = omega arith in absurd (e l)
below_zero most (negsuc a) h e = refl

pub too_large : (most : ℕ) (z : ℤ) → FitsUnsignedBits 64 z → most < nat_abs z → allowed (up_to most) z ≡ false
too_large most (pos a) e h = rw (le-leb 0 a (omega arith), lt-leb a most h)
too_large most (negsuc a) e h = absurd e

pub within_is : (most : ℕ) (z : ℤ) → FitsUnsignedBits 64 z → nat_abs z ≤ most → allowed (up_to most) z ≡ true
within_is most (pos a) e h = rw (le-leb 0 a (omega arith), le-leb a most h)
within_is most (negsuc a) e h = absurd e

-- ---- a row of words
-- one of those that are left
pub suc_left : (n i : ℕ) → i < n → n - i ≡ suc (n - (i + 1))
suc_left n i h = omega arith

module _ (words : List (List ℕ)) (kind : Kind) where
  pub row_none : (p : ℕ) → bad_from words kind p 0 ≡ sound
  unfolding bad_from
  row_none p = refl

  -- the word at the beginning, and then the others
  pub row_first : (p n : ℕ) → bad_from words kind p (suc n) ≡ single 25 (bad words kind p) p or_else bad_from words kind (suc p) n
  unfolding bad_from
  row_first p n = refl

  module _ (p n i : ℕ) (h : i < n) where
    left_first : bad_from words kind (p + i) (n - i)
        ≡ single 25 (bad words kind (p + i)) (p + i) or_else bad_from words kind (p + (i + 1)) (n - (i + 1))
    left_first =
        let q : suc (p + i) ≡ p + (i + 1) = omega arith in
        rw (suc_left n i h) (row_first (p + i) (n - (i + 1)) ∙ ap (λ (k : ℕ). single 25 (bad words kind (p + i)) (p + i) or_else bad_from words kind k (n - (i + 1))) q)

    pub left_stop : (k q : ℕ) → fault k q ≡ single 25 (bad words kind (p + i)) (p + i) → bad_from words kind (p + i) (n - i) ≡ fault k q
    left_stop k q e = left_first ∙ or_else_fault k q _ (sym e)

    pub left_step : bad words kind (p + i) ≡ false → bad_from words kind (p + i) (n - i) ≡ bad_from words kind (p + (i + 1)) (n - (i + 1))
    left_step e = left_first ∙ or_else_sound _ (single_miss 25 (p + i) e)

  pub left_none : (p n i : ℕ) → i ≡ n → bad_from words kind (p + i) (n - i) ≡ sound
  left_none p n i e =
      let q : n - i ≡ 0 = omega arith in
      ap (λ (k : ℕ). bad_from words kind (p + i) k) q ∙ row_none (p + i)

  -- one word
  pub one_is : (p : ℕ) → bad_from words kind p 1 ≡ single 25 (bad words kind p) p or_else sound
  one_is p = row_first p 0 ∙ ap (λ (v : Verdict). single 25 (bad words kind p) p or_else v) (row_none (suc p))
