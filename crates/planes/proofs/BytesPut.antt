-- Bytes that are stored one after the other: what they are, and every other place as it was.
use Rattle.std.proofs.Common.{◌≡◌, ℕ, ◌+◌, ◌*◌, ◌/◌, ◌%◌, ◌^◌, ◌<◌, ◌≤◌, List, length, get_or, set, sym, refl, ap, ◌∙◌, subst, ⊎_elim, div-one, arith, length-set, get_or-set_other, get_or-set_same}
use Rattle.mesh.proofs.Scans.{compared}
use Rattle.planes.specs.Planes.{four_set}

-- the first w values of f, from a place on
pub record BytesPut (f : ℕ → ℕ) (w at : ℕ) (old out : List ℕ) : Type 0 where
  pub long : length out ≡ length old
  pub holds : (j : ℕ) → j < w → get_or out (at + j) 0 ≡ f j
  pub below : (j : ℕ) → j < at → get_or out j 0 ≡ get_or old j 0
  pub above : (j : ℕ) → at + w ≤ j → get_or out j 0 ≡ get_or old j 0

module _ (f : ℕ → ℕ) (at : ℕ) (old : List ℕ) where
  none : BytesPut f 0 at old old
  none = record { long = refl; holds = λ j h. absurd (omega arith); below = λ j h. refl; above = λ j h. refl }

  -- one more value, at the place p after the others
  more : (w p x : ℕ) (out : List ℕ) → p ≡ at + w → p < length old → x ≡ f w → BytesPut f w at old out → BytesPut f (w + 1) at old (set out p x)
  more w p x out e room q r =
      let other : (j : ℕ) → (j ≡ p → ⊥) → get_or (set out p x) j 0 ≡ get_or out j 0 = λ j n. get_or-set_other out p j x 0 n in
      record {
        long = length-set out p x ∙ r.long;
        holds = λ j h. ⊎_elim
            (λ k. subst (λ (y : ℕ). get_or (set out p x) y 0 ≡ f j) (let z : p ≡ at + j = omega arith in z)
            (get_or-set_same out p x 0 (omega (arith, r.long)) ∙ q ∙ ap f (sym k)))
            (λ o. ⊎_elim (λ l. other (at + j) (λ z. omega arith) ∙ r.holds j l) (λ l. absurd (omega arith)) o)
            (compared j w);
        below = λ j h. other j (λ z. omega arith) ∙ r.below j h;
        above = λ j h. other j (λ z. omega arith) ∙ r.above j (omega arith);
      }

  pub run_one : (x : ℕ) → at < length old → x ≡ f 0 → BytesPut f 1 at old (set old at x)
  run_one x room q = more 0 at x old (omega arith) room q none

  pub run_row : (a b c d : ℕ) → at + 3 < length old → a ≡ f 0 → b ≡ f 1 → c ≡ f 2 → d ≡ f 3 → BytesPut f 4 at old (four_set old 1 at a b c d)
  unfolding four_set
  run_row a b c d room p q r s =
      let r1 = run_one a (omega arith) p in
      let r2 = more 1 (1 + at) b _ (omega arith) (omega arith) q r1 in
      let r3 = more 2 (2 * 1 + at) c _ (omega arith) (omega arith) r r2 in
      more 3 (3 * 1 + at) d _ (omega arith) (omega arith) s r3

-- the lowest byte of a number, as the others are written
pub lowest_byte : (d : ℕ) → d % 256 ≡ d / 256 ^ 0 % 256
lowest_byte d = ap (λ (x : ℕ). x % 256) (sym (div-one d))
