-- A range one number longer, and what a number tells of it.
use mathlib.Core.Path.{◌≡◌, refl, sym, subst}
use mathlib.Core.Bool.{Bool, true, false, true≢false}
use Rattle.std.proofs.Common.{IsTrue, ◌↔◌}
use mir.Val.{bool_byte}
use mathlib.Core.Logic.{⊎_elim}
use Prim.Native.Nat.{ℕ, ◌+◌, ◌<◌, ◌≤◌}
use native.Mathlib.Omega.{arith}
use lib.Dec.{ltb, lit<}
use borrow.Author.Tests.{ltb-true, ltb-false}
use Rattle.mesh.proofs.Scans.{ways}
use Rattle.face_sums.specs.Marks.{SomeIn, Tells}

module _ (P : ℕ → Type 0) (start end more : ℕ) (e : more ≡ end + 1) where
  pub some_more : SomeIn P start end → SomeIn P start more
  some_more s = record { at = s.at; from = s.from; to = omega (arith, s.to); holds = s.holds }

  pub some_last : start ≤ end → P end → SomeIn P start more
  some_last l p = record { at = end; from = l; to = omega arith; holds = p }

  pub some_less : SomeIn P start more → (P end → ⊥) → SomeIn P start end
  some_less s never = record {
    at = s.at;
    from = s.from;
    to = ⊎_elim
        (λ b. ltb-true s.at end b)
        (λ b. let q : s.at ≡ end = omega (arith, s.to, ltb-false s.at end b) in absurd (never (subst P q s.holds)))
        (ways (ltb s.at end));
    holds = s.holds;
  }

  -- what the number tells, one place later: it is set there, or P does not hold there
  pub tells_set : (r : ℕ) → 0 < r → start ≤ end → P end → Tells r (SomeIn P start more)
  tells_set r h l p = record { yes = λ s. h; only = λ o. some_last l p }

  pub tells_passed : (r : ℕ) → (P end → ⊥) → Tells r (SomeIn P start end) → Tells r (SomeIn P start more)
  tells_passed r never t = record { yes = λ s. t.yes (some_less s never); only = λ o. some_more (t.only o) }

pub tells_none : (P : ℕ → Type 0) (start end r : ℕ) → end ≡ start → r ≡ 0 → Tells r (SomeIn P start end)
tells_none P start end r e z = record { yes = λ s. absurd (omega (arith, s.from, s.to)); only = λ o. absurd (omega arith) }

-- a test's bit tells what the test does
pub tells_bit : {A : Type 0} (b : Bool) (r : ℕ) → r ≡ bool_byte b → (IsTrue b ↔ A) → Tells r A
tells_bit true r e i = record { yes = λ a. rw e (lit< tt); only = λ o. i.0 refl }
tells_bit false r e i = record { yes = λ a. absurd (true≢false (sym (i.1 a))); only = λ o. absurd (omega (arith, o, e)) }
