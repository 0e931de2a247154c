-- The cases that the proofs go by: the two ways of a test with what each tells, the four sides by their numbers, places counted by sides.
use mathlib.Core.Path.{◌≡◌, refl, ◌∙◌}
use mathlib.Core.Bool.{true, false}
use mathlib.Core.Logic.{⊎_elim}
use Prim.Native.Nat.{ℕ, zero, suc, ◌+◌, ◌*◌, ◌/◌, ◌%◌, ◌≤◌, ◌<◌}
use native.Mathlib.Omega.{arith}
use native.Mathlib.Nat.{eq-or-lt_of_le, mul-add-div_right, div-eq_of_lt, mul-add-mod_self_right, mod-eq_of_lt}
use lib.Dec.{ltb, eqb}
use borrow.Author.Tests.{ltb-true, ltb-false, eqb-true, eqb-false}
use Rattle.paper.specs.Scan.{pick_n}
use Rattle.paper.specs.Net.{Side, side0, side1, side2, side3}
use Rattle.paper.specs.Sampling.{side_at, side_number}
use Rattle.paper.specs.Triangles.{turn}
use Rattle.mesh.proofs.Scans.{ways}

-- ---- tests
module _ {G : Type 0} (a b : ℕ) where
  pub test_less : (ltb a b ≡ true → a < b → G) → (ltb a b ≡ false → b ≤ a → G) → G
  test_less f g = ⊎_elim (λ e. f e (ltb-true a b e)) (λ e. g e (ltb-false a b e)) (ways (ltb a b))

  pub test_equal : (eqb a b ≡ true → a ≡ b → G) → (eqb a b ≡ false → (a ≡ b → ⊥) → G) → G
  test_equal f g = ⊎_elim (λ e. f e (eqb-true a b e)) (λ e. g e (eqb-false a b e)) (ways (eqb a b))

  -- a is at most b
  pub by_last : a ≤ b → (a ≡ b → G) → (a < b → G) → G
  by_last h f g = ⊎_elim f g (eq-or-lt_of_le h)

  -- what a choice by a test is
  pub pick_less : (x y : ℕ) → (a < b → pick_n (ltb a b) x y ≡ x → G) → (b ≤ a → pick_n (ltb a b) x y ≡ y → G) → G
  pick_less x y f g = test_less (λ e l. f l (rw e)) (λ e l. g l (rw e))

  pub pick_equal : (x y : ℕ) → (a ≡ b → pick_n (eqb a b) x y ≡ x → G) → ((a ≡ b → ⊥) → pick_n (eqb a b) x y ≡ y → G) → G
  pick_equal x y f g = test_equal (λ e l. f l (rw e)) (λ e l. g l (rw e))

-- ---- sides
pub side_three : (s : Side) → side_number s ≤ 3
side_three side0 = omega arith
side_three side1 = omega arith
side_three side2 = omega arith
side_three side3 = omega arith

pub number_back : (n : ℕ) → n ≤ 3 → side_number (side_at n) ≡ n
number_back zero h = refl
number_back (suc zero) h = refl
number_back (suc (suc zero)) h = refl
number_back (suc (suc (suc n))) h = omega arith

-- the side before
abbrev pub back : Side → Side
back side0 = side3
back side1 = side0
back side2 = side1
back side3 = side2

pub turn_back : (s : Side) → turn (back s) ≡ s
turn_back side0 = refl
turn_back side1 = refl
turn_back side2 = refl
turn_back side3 = refl

pub back_turn : (s : Side) → back (turn s) ≡ s
back_turn side0 = refl
back_turn side1 = refl
back_turn side2 = refl
back_turn side3 = refl

-- ---- place j of part n, in parts of w places
pub ring_side : (n w j : ℕ) → j < w → (n * w + j) / w ≡ n
ring_side n w j h = mul-add-div_right (omega arith) n j ∙ omega (arith, div-eq_of_lt h)

pub ring_rest : (n w j : ℕ) → j < w → (n * w + j) % w ≡ j
ring_rest n w j h = mul-add-mod_self_right n w j ∙ mod-eq_of_lt h
