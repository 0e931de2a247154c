-- Numbers read one after the other from a line: what was read stands in the list, and each list of numbers that the line has agrees with it.
use mathlib.Core.Path.{◌≡◌, refl, sym, ap, subst, ◌∙◌}
use Rattle.std.specs.Prelude.{Some, None}
use Rattle.std.specs.Bool.{then_some}
use mathlib.Core.Bool.{true≢false}
use mathlib.Core.Logic.{⊎_elim}
use lib.Dec.{eqb}
use borrow.Author.Tests.{eqb-true, eq-eqb}
use Rattle.mesh.proofs.Scans.{ways}
use mathlib.Core.List.{List, [], ◌∷◌, ◌++◌, append_assoc, append-nil}
use Prim.Native.Nat.{ℕ, suc, ◌+◌, ◌<◌, ◌≤◌}
use native.Mathlib.Numerals.{add-one}
use native.Mathlib.Omega.{arith}
use lib.ListN.{length, take, drop, get_or, set, length-drop, drop_of_length-le}
use lib.Seq.{drop-cons, take-suc, take-suc-set, take_all}
use Rattle.page_text.specs.Reading.{NoDigit, value_after, Spaced, PageForm, PageRead, SpacedFound, SpacedRead}
use Rattle.page_text.proofs.Digits.{same_split}

-- after a number the line ends, or a space follows
pub spaced_ended : (text numbers : List ℕ) → Spaced text numbers → NoDigit text
unfolding Spaced NoDigit
spaced_ended text [] s = subst NoDigit (sym s) tt
spaced_ended text (n ∷ numbers) s = subst NoDigit (sym s.2) (λ d. omega (arith, d.0))

-- i numbers were read, up to a place
pub record Taken (line : List ℕ) (i at : ℕ) (numbers : List ℕ) : Type 0 where
  pub sound : (more : List ℕ) → Spaced (drop at line) more → Spaced (drop 4 line) (take i numbers ++ more)
  pub complete : (others : List ℕ) → length others ≡ 21 → Spaced (drop 4 line) others
      → Spaced (drop at line) (drop i others) × (take i numbers ≡ take i others)
  pub inside : 0 < i → at ≤ length line

pub taken_none : (line numbers : List ℕ) → Taken line 0 4 numbers
taken_none line numbers = record { sound = λ more s. s; complete = λ others w s. (s, refl); inside = λ h. absurd (omega arith) }

module _ (line : List ℕ) (i at : ℕ) (numbers : List ℕ) (h : i < 21) (t : Taken line i at numbers) where
  -- the number that another list has at this place
  whole : (others : List ℕ) → length others ≡ 21 → Spaced (drop 4 line) others → Spaced (drop at line) (get_or others i 0 ∷ drop (suc i) others)
  whole others w s = subst (Spaced (drop at line)) (drop-cons others i 0 (omega arith)) (t.complete others w s).0

  pub taken_more : (end value : ℕ) → length numbers ≡ 21 → SpacedFound line at end value → Taken line (i + 1) end (set numbers i value)
  unfolding Spaced
  taken_more end value l f =
      let k : i < length numbers = omega arith in
      let step = ap (λ (n : ℕ). take n (set numbers i value)) (add-one i) ∙ take-suc-set numbers i value k in
      record {
        sound = λ more s.
            subst (Spaced (drop 4 line)) (sym (ap (λ (z : List ℕ). z ++ more) step ∙ append_assoc (take i numbers) (value ∷ []) more))
            (t.sound (value ∷ more) (f.text, drop end line, f.split, f.decimal, s));
        complete = λ others w s.
            let m : i < length others = omega arith in
            let o = whole others w s in
            let q : f.text ++ drop end line ≡ o.0 ++ o.1 = tail (sym f.split ∙ o.2) in
            let same = same_split f.text o.0 (drop end line) o.1 f.decimal.digits o.3.digits f.ends
            (spaced_ended o.1 (drop (suc i) others) o.4) q in
            let value_same : value ≡ get_or others i 0 = sym f.decimal.value ∙ ap (value_after 0) same.0 ∙ o.3.value in (
              subst (λ (z : List ℕ). Spaced z (drop (i + 1) others)) (sym same.1)
                  (subst (λ (n : ℕ). Spaced o.1 (drop n others)) (sym (add-one i)) o.4),
              step ∙ ap (λ (z : List ℕ). z ++ (value ∷ [])) (t.complete others w s).1
                  ∙ ap (λ (x : ℕ). take i others ++ (x ∷ [])) value_same
                  ∙ sym (ap (λ (n : ℕ). take n others) (add-one i) ∙ take-suc others i 0 m),
            );
        inside = λ z. f.inside;
      }
    where
      tail : {x y : ℕ} {a b : List ℕ} → x ∷ a ≡ y ∷ b → a ≡ b
      tail e = cc

  pub page_none : SpacedRead line at None → PageRead line None
  unfolding Spaced
  page_none n = record {
    says = tt;
    said = λ others p.
        let o = whole others p.all p.form in
        absurd (n.none refl o.0 o.1 (get_or others i 0) o.2 o.3 (spaced_ended o.1 (drop (suc i) others) o.4));
  }

-- all 21 were read
module _ (line : List ℕ) (i at : ℕ) (numbers : List ℕ) (h : 21 ≤ i) (m : i ≤ 21) (l : length numbers ≡ 21) (t : Taken line i at numbers) where
  -- another list that the line has is this one, and the line ends there
  ended : (others : List ℕ) → PageForm line others → (at ≡ length line) × (numbers ≡ others)
  unfolding Spaced
  ended others p =
      let c = t.complete others p.all p.form in
      let no_more : drop i others ≡ [] = drop_of_length-le others {i = i} (omega (arith, p.all)) in
      let nothing : drop at line ≡ [] = subst (Spaced (drop at line)) no_more c.0 in
      let inside = t.inside (omega arith) in
      let q : at ≡ length line = omega (arith, ap length nothing, length-drop at line) in
      (q, sym (take_all i numbers (omega arith)) ∙ c.1 ∙ take_all i others (omega (arith, p.all)))

  page_whole : at ≡ length line → PageRead line (Some numbers)
  unfolding Spaced
  page_whole q = record {
    says = record {
      all = l;
      form = subst (Spaced (drop 4 line)) (append-nil (take i numbers) ∙ take_all i numbers (omega arith))
          (t.sound [] (drop_of_length-le line {i = at} (omega arith)));
    };
    said = λ others p. ap Some (ended others p).1;
  }

  page_longer : (at ≡ length line → ⊥) → PageRead line None
  page_longer n = record { says = tt; said = λ others p. absurd (n (ended others p).0) }

  pub page_end : PageRead line (then_some (eqb at (length line)) numbers)
  page_end =
      ⊎_elim (λ e. rw e (page_whole (eqb-true at (length line) e)))
      (λ e. rw e (page_longer (λ q. true≢false (sym (eq-eqb at (length line) q) ∙ e)))) (ways (eqb at (length line)))
