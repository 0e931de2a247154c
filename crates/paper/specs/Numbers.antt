-- Rounding ("Numbers used"), and the numbers that the construction is carried out in. The construction is said once, over a structure of
-- numbers, and has two readings: `rounded`, whole numbers of ticks where every division rounds, is what building writes; `exact`, fractions of
-- a tick where none does, is the true surface (L10).
use Rattle.std.specs.Prelude.{◌/◌, ℕ, zero, suc, ◌*◌, ℤ, pos, negsuc, neg_ℤ, nat_abs, ◌+ℤ◌, ◌-ℤ◌, ◌*ℤ◌}

-- the largest whole number that is not above z / d, for d > 0
unfoldable pub floor : ℤ → ℤ → ℤ
floor (pos a) d = pos (a / nat_abs d)
floor (negsuc a) d = negsuc (a / nat_abs d)

-- r(n / d), for d > 0: the nearest whole number, halves away from zero. From zero on it is n / d + 1/2, rounded down; below zero that of the
-- size, negated. It computes on literals
unfoldable pub round : ℤ → ℤ → ℤ
round (pos a) d = floor (pos 2 *ℤ pos a +ℤ d) (pos 2 *ℤ d)
round (negsuc a) d = neg_ℤ (floor (pos 2 *ℤ pos (suc a) +ℤ d) (pos 2 *ℤ d))

-- f 0 + .. + f (n - 1), for any sum and what it starts from
unfoldable pub sum_by : {A : Type 0} → (A → A → A) → A → (ℕ → A) → ℕ → A
sum_by plus none f zero = none
sum_by plus none f (suc n) = plus (sum_by plus none f n) (f n)

-- of whole numbers
abbrev pub sum : (ℕ → ℤ) → ℕ → ℤ
sum = sum_by ◌+ℤ◌ (pos 0)

-- ---- all that the construction does with numbers
pub record Numbers : Type 1 where
  pub Number : Type 0
  -- a whole number as such a number
  pub whole : ℤ → Number
  -- sum, difference, multiple, and quotient by a positive whole number
  pub ◌⊕◌ : Number → Number → Number
  pub ◌⊖◌ : Number → Number → Number
  pub ◌·◌ : ℤ → Number → Number
  pub ◌÷◌ : Number → ℕ → Number

-- ---- every division is r of 01
abbrev pub rounded : Numbers
rounded = record {
  Number = ℤ;
  whole = λ z. z;
  ◌⊕◌ = ◌+ℤ◌;
  ◌⊖◌ = ◌-ℤ◌;
  ◌·◌ = ◌*ℤ◌;
  ◌÷◌ = λ z d. round z (pos d);
}

-- ---- no division rounds: fractions, not reduced
pub record Fraction : Type 0 where
  pub top : ℤ
  pub bottom : ℕ

abbrev pub fraction : ℤ → ℕ → Fraction
fraction top bottom = record { top = top; bottom = bottom }

abbrev pub exact : Numbers
exact = record {
  Number = Fraction;
  whole = λ z. fraction z 1;
  ◌⊕◌ = λ x y. fraction (x.top *ℤ pos y.bottom +ℤ y.top *ℤ pos x.bottom) (x.bottom * y.bottom);
  ◌⊖◌ = λ x y. fraction (x.top *ℤ pos y.bottom -ℤ y.top *ℤ pos x.bottom) (x.bottom * y.bottom);
  ◌·◌ = λ w x. fraction (w *ℤ x.top) x.bottom;
  ◌÷◌ = λ x d. fraction x.top (x.bottom * d);
}
