-- A list with one axis negated, number by number, and the values of a function with one axis negated.
use mathlib.Core.Path.{◌≡◌, refl, sym, ap, ◌∙◌}
use mathlib.Core.Bool.{Bool, true, false, not}
use mathlib.Core.List.{List}
use Prim.Native.Nat.{ℕ, zero, suc, ◌+◌, ◌%◌, ◌≤◌, ◌<◌}
use native.Mathlib.Nat.{zero-add}
use native.Mathlib.Omega.{arith}
use lib.Dec.{T, ltb, eqb, ltb→lt, nltb→le}
use lib.ListN.{length, get_or, get_or-eq_default}
use lib.IntN.{ℤ, pos}
use Rattle.paper.specs.Scan.{values_from}
use Rattle.paper.specs.Mirror.{negated_if, negate_axis}
use Rattle.mesh.proofs.Links.{values_length, values_at}
use Rattle.mirror.proofs.Turn.{turn}

-- two functions that agree on a range have the same values there
pub values_same : {A : Type 0} (f g : ℕ → A) (at n : ℕ) → ((k : ℕ) → at ≤ k → k < at + n → f k ≡ g k) → values_from f at n ≡ values_from g at n
unfolding values_from
values_same f g at zero h = refl
values_same f g at (suc n) h =
    cc (h at (omega arith) (omega arith), values_same f g (suc at) n (λ k l m. h k (omega (arith, l)) (omega (arith, m))))

module _ (axis : ℕ) where
  -- what is done to number i of a list
  abbrev pub turned : ℕ → ℤ → ℤ
  turned i = negated_if (eqb (i % 3) axis)

  pub negate_length : (l : List ℤ) → length (negate_axis axis l) ≡ length l
  unfolding negate_axis
  negate_length l = values_length (λ i. turned i (get_or l i (pos 0))) 0 (length l)

  pub negate_at : (l : List ℤ) (i : ℕ) → get_or (negate_axis axis l) i (pos 0) ≡ turned i (get_or l i (pos 0))
  unfolding negate_axis
  negate_at l i = go (ltb i (length l)) (λ t. ltb→lt i (length l) t) (λ t. nltb→le i (length l) t)
    where
      go : (b : Bool) → (T b → i < length l) → (T (not b) → length l ≤ i) → get_or (negate_axis axis l) i (pos 0) ≡ turned i (get_or l i (pos 0))
      go true f g = rw zero-add at (values_at (λ i. turned i (get_or l i (pos 0))) (pos 0) 0 (length l) i (f tt))
      go false f g =
          get_or-eq_default (negate_axis axis l) (pos 0) (rw (negate_length l) (g tt))
          ∙ sym (turn (eqb (i % 3) axis)).none
          ∙ ap (turned i) (sym (get_or-eq_default l (pos 0) (g tt)))

  -- the values of a function, negated
  pub negate_values : (f : ℕ → ℤ) (n : ℕ) → negate_axis axis (values_from f 0 n) ≡ values_from (λ i. turned i (f i)) 0 n
  unfolding negate_axis
  negate_values f n =
      ap (values_from (λ i. turned i (get_or (values_from f 0 n) i (pos 0))) 0) (values_length f 0 n)
      ∙ values_same (λ i. turned i (get_or (values_from f 0 n) i (pos 0))) (λ i. turned i (f i)) 0 n
      (λ k l m. ap (turned k) (rw zero-add at (values_at f (pos 0) 0 n k (omega (arith, m)))))
