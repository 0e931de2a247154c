-- Digits: one more of them, the number that they make, and that the digits at a text's beginning are one run.
use mathlib.Core.Path.{◌≡◌, refl, sym, subst}
use mathlib.Core.List.{List, [], ◌∷◌, ◌++◌}
use Prim.Native.Nat.{ℕ, ◌+◌, ◌*◌, ◌-◌, ◌≤◌}
use native.Mathlib.Omega.{arith}
use Rattle.page_text.specs.Reading.{Digit, Digits, NoDigit, value_after}

pub one_digit_more : (a : List ℕ) (b : ℕ) → Digits a → Digit b → Digits (a ++ (b ∷ []))
unfolding Digits
one_digit_more [] b d e = (e, tt)
one_digit_more (x ∷ a) b d e = (d.0, one_digit_more a b d.1 e)

pub value_append : (n : ℕ) (a b : List ℕ) → value_after n (a ++ b) ≡ value_after (value_after n a) b
unfolding value_after
value_append n [] b = refl
value_append n (x ∷ a) b = value_append (10 * n + (x - 48)) a b

pub value_grows : (n : ℕ) (a : List ℕ) → n ≤ value_after n a
unfolding value_after
value_grows n [] = omega arith
value_grows n (x ∷ a) = let h = value_grows (10 * n + (x - 48)) a in omega arith

no_cons : {x : ℕ} {l : List ℕ} → [] ≡ x ∷ l → ⊥
no_cons q = let z : ◌≡◌ {A = ℕ} 0 1 = cc in omega arith

-- a run of digits that no digit follows is as long as any
pub longest : (a b t rest : List ℕ) → Digits a → NoDigit rest → b ++ rest ≡ a ++ t → (more : List ℕ) × (b ≡ a ++ more)
unfolding Digits NoDigit
longest [] b t rest d e q = (b, refl)
longest (x ∷ a) [] t [] d e q = absurd (no_cons q)
longest (x ∷ a) [] t (y ∷ rest) d e q = let h : x ≡ y = cc in absurd (e (subst (λ (z : ℕ). Digit z) h d.0))
longest (x ∷ a) (y ∷ b) t rest d e q =
    let h : y ≡ x = cc in
    let k : b ++ rest ≡ a ++ t = cc in
    let r = longest a b t rest d.1 e k in
    let s = r.1 in
    (r.0, cc)

-- and there is one such run
pub same_split : (a b s t : List ℕ) → Digits a → Digits b → NoDigit s → NoDigit t → a ++ s ≡ b ++ t → (a ≡ b) × (s ≡ t)
unfolding Digits NoDigit
same_split [] [] s t da db es et q = (refl, q)
same_split [] (y ∷ b) [] t da db es et q = absurd (no_cons q)
same_split [] (y ∷ b) (x ∷ s) t da db es et q = let h : y ≡ x = cc in absurd (es (subst (λ (z : ℕ). Digit z) h db.0))
same_split (x ∷ a) [] s [] da db es et q = absurd (no_cons (sym q))
same_split (x ∷ a) [] s (y ∷ t) da db es et q = let h : x ≡ y = cc in absurd (et (subst (λ (z : ℕ). Digit z) h da.0))
same_split (x ∷ a) (y ∷ b) s t da db es et q =
    let h : x ≡ y = cc in
    let k : a ++ s ≡ b ++ t = cc in
    let r = same_split a b s t da.1 db.1 es et k in
    let i = r.0 in
    (cc, r.1)
