-- Laws of choices: a search over all of them finds one where there is one.
use mathlib.Core.Path.{◌≡◌, refl, ap, ◌∙◌}
use mathlib.Core.Bool.{Bool, true, false}
use mathlib.Core.List.{List, [], ◌∷◌}
use Prim.Native.Nat.{ℕ, zero, suc, ◌<◌}
use native.Mathlib.Omega.{arith}
use lib.ListN.{length}
use Rattle.paper.specs.Scan.{values_from}
use Rattle.mesh.proofs.Ranges.{or_left, or_right}
use Rattle.mesh.proofs.Links.{values_length, values_at}
use Rattle.mesh.proofs.ByCases.{by_test}
use Rattle.paper.specs.Turning.{says, some_choice, first_choice}

-- a choice that passes is found
pub some_choice_lem : (n : ℕ) (p : List Bool → Bool) (t : List Bool) → length t ≡ n → p t ≡ true → some_choice n p ≡ true
unfolding some_choice
some_choice_lem zero p [] l e = e
some_choice_lem zero p (x ∷ t) l e = absurd (omega arith)
some_choice_lem (suc n) p [] l e = absurd (omega arith)
some_choice_lem (suc n) p (false ∷ t) l e = or_left _ _ (some_choice_lem n (λ s. p (false ∷ s)) t (omega arith) e)
some_choice_lem (suc n) p (true ∷ t) l e = or_right (some_choice n (λ s. p (false ∷ s))) _ (some_choice_lem n (λ s. p (true ∷ s)) t (omega arith) e)

pub record Passes (n : ℕ) (p : List Bool → Bool) (t : List Bool) : Type 0 where
  pub long : length t ≡ n
  pub passes : p t ≡ true

-- what is found passes
pub first_choice_lem : (n : ℕ) (p : List Bool → Bool) → some_choice n p ≡ true → Passes n p (first_choice n p)
unfolding some_choice first_choice
first_choice_lem zero p e = record { long = refl; passes = e }
first_choice_lem (suc n) p e =
    by_test (some_choice n (λ s. p (false ∷ s)))
    (λ b. let r = first_choice_lem n (λ s. p (false ∷ s)) b in rw b (record { long = ap suc r.long; passes = r.passes }))
    (λ b. let r = first_choice_lem n (λ s. p (true ∷ s)) (rw b at e) in rw b (record { long = ap suc r.long; passes = r.passes }))

-- every test of numbers is a choice below n
module _ (f : ℕ → Bool) where
  pub choice_of : (n : ℕ) → List Bool
  choice_of n = values_from f 0 n

  pub choice_long : (n : ℕ) → length (choice_of n) ≡ n
  unfolding choice_of
  choice_long n = values_length f 0 n

  pub choice_says : (n i : ℕ) → i < n → says (choice_of n) i ≡ f i
  unfolding choice_of
  choice_says n i h = values_at f false 0 n i h ∙ ap f (omega arith)
