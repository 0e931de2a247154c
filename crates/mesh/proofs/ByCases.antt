-- Proofs by cases: a test's two ways, two numbers that are the same or not, one number below another or not.
use mathlib.Core.Path.{◌≡◌, refl, sym}
use mathlib.Core.Bool.{Bool, true, false, ◌&&◌}
use mathlib.Core.Logic.{⊎_elim}
use Prim.Native.Nat.{ℕ, ◌+◌, ◌<◌, ◌≤◌}
use native.Mathlib.Omega.{arith}
use lib.Dec.{ltb, eqb}
use borrow.Author.Tests.{ltb-true, ltb-false, eqb-true, eqb-false, eq-eqb}
use Rattle.mesh.proofs.Scans.{ways, and_true, and_left, and_right}

pub by_test : {A : Type 0} (b : Bool) → (b ≡ true → A) → (b ≡ false → A) → A
by_test b f g = ⊎_elim f g (ways b)

pub by_equal : {A : Type 0} (a b : ℕ) → (a ≡ b → A) → ((a ≡ b → ⊥) → A) → A
by_equal a b f g = ⊎_elim (λ e. f (eqb-true a b e)) (λ e. g (eqb-false a b e)) (ways (eqb a b))

pub by_less : {A : Type 0} (a b : ℕ) → (a < b → A) → (b ≤ a → A) → A
by_less a b f g = ⊎_elim (λ e. f (ltb-true a b e)) (λ e. g (ltb-false a b e)) (ways (ltb a b))

pub by_order : {A : Type 0} (a b : ℕ) → (a ≡ b → A) → (a < b → A) → (b < a → A) → A
by_order a b f g h = by_equal a b f (λ n. by_less a b g (λ l. h (omega (arith, n))))

-- a test that can't fail passes, and one that can't pass fails
pub true_of : (b : Bool) → (b ≡ false → ⊥) → b ≡ true
true_of b n = by_test b (λ e. e) (λ e. absurd (n e))

pub false_of : (b : Bool) → (b ≡ true → ⊥) → b ≡ false
false_of b n = by_test b (λ e. absurd (n e)) (λ e. e)

-- two tests that pass together are the same
pub true_both : (a b : Bool) → (a ≡ true → b ≡ true) → (b ≡ true → a ≡ true) → a ≡ b
true_both true b f g = sym (f refl)
true_both false true f g = g refl
true_both false false f g = refl

-- below c + 1 and not c; from c on and not c
pub less_one : (x c : ℕ) → x < c + 1 → (x ≡ c → ⊥) → x < c
less_one x c l n = omega (arith, n)

pub beyond : (x c : ℕ) → c ≤ x → (x ≡ c → ⊥) → c < x
beyond x c l n = omega (arith, n)

-- two numbers that are the same, and two more
pub equal_both : (a b c d : ℕ) → a ≡ b → c ≡ d → eqb a b && eqb c d ≡ true
equal_both a b c d p q = and_true _ _ (eq-eqb a b p) (eq-eqb c d q)

pub both_equal : (a b c d : ℕ) → eqb a b && eqb c d ≡ true → (a ≡ b) × (c ≡ d)
both_equal a b c d e = (eqb-true a b (and_left _ _ e), eqb-true c d (and_right (eqb a b) _ e))
