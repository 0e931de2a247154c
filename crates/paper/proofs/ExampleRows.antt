-- The claim over a table of examples, from a test that is computed over all its rows.
use mathlib.Core.Path.{◌≡◌, refl}
use mathlib.Core.Bool.{Bool, true, false}
use mathlib.Core.List.{List, [], ◌∷◌}
use lib.Dec.{T as True}
use lib.IntN.{ℤ}
use Rattle.paper.specs.Examples.{Row, ◌gives◌, AllGive}
use Rattle.paper.proofs.Below.{both, both_left, both_right, eq_z, eq_z_eq}

unfoldable pub same : List ℤ → List ℤ → Bool
same [] [] = true
same [] (b ∷ ys) = false
same (a ∷ xs) [] = false
same (a ∷ xs) (b ∷ ys) = both (eq_z a b) (same xs ys)

same_eq : (xs ys : List ℤ) → True (same xs ys) → xs ≡ ys
unfolding same
same_eq [] [] t = refl
same_eq [] (b ∷ ys) t = absurd t
same_eq (a ∷ xs) [] t = absurd t
same_eq (a ∷ xs) (b ∷ ys) t = cc (eq_z_eq a b (both_left (eq_z a b) (same xs ys) t), same_eq xs ys (both_right (eq_z a b) (same xs ys) t))

unfoldable pub all_same : List Row → Bool
all_same [] = true
all_same ((given gives printed) ∷ rows) = both (same given printed) (all_same rows)

pub agree : (rows : List Row) → True (all_same rows) → AllGive rows
unfolding all_same
agree [] t = tt
agree ((given gives printed) ∷ rows) t =
    (same_eq given printed (both_left (same given printed) (all_same rows) t), agree rows (both_right (same given printed) (all_same rows) t))
