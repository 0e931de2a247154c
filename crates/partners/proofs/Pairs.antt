-- A test that two numbers below a bound pass: from one of them the other is found, and the other way round.
use mathlib.Core.Path.{◌≡◌, refl, ◌∙◌, sym, subst}
use mathlib.Core.Bool.{Bool, true, false, ◌&&◌}
use mathlib.Core.Logic.{◌⊎◌, inl, inr, ⊎_elim}
use Prim.Native.Nat.{ℕ, suc, ◌<◌}
use native.Mathlib.Omega.{arith}
use borrow.Author.Tests.{eqb-false, eq-eqb, ne_eqb, not-true}
use Rattle.paper.specs.Scan.{first_below, some_below, count_below}
use Rattle.mesh.proofs.Scans.{clash, and_left, and_right, some_below_lem, some_passes, none}
use Rattle.partners.specs.Partner.{besides, other}
use Rattle.mesh.proofs.Rings.{count_less, count_none, none_counted}
use Rattle.mesh.proofs.ByCases.{by_equal, true_of, false_of}

and_none : (b : Bool) → b && false ≡ false
and_none true = refl
and_none false = refl

and_all : (b : Bool) → b ≡ b && true
and_all true = refl
and_all false = refl

besides_self : (g : ℕ → Bool) (c : ℕ) → besides g c c ≡ false
besides_self g c = rw (eq-eqb c c refl) (and_none (g c))

besides_other : (g : ℕ → Bool) (c d : ℕ) → (d ≡ c → ⊥) → g d ≡ besides g c d
besides_other g c d n = rw (ne_eqb d c n) (and_all (g d))

count_besides : (n : ℕ) (g : ℕ → Bool) (c : ℕ) → c < n → g c ≡ true → count_below n g ≡ suc (count_below n (besides g c))
count_besides n g c l p = count_less g (besides g c) n c l p (besides_self g c) (besides_other g c)

pub record Paired (n : ℕ) (g : ℕ → Bool) (c d : ℕ) : Type 0 where
  pub inside : d < n
  pub apart : d ≡ c → ⊥
  pub passes : g d ≡ true
  pub only : (e : ℕ) → e < n → g e ≡ true → (e ≡ c) ⊎ (e ≡ d)

module _ (n : ℕ) (g : ℕ → Bool) (c : ℕ) (l : c < n) (p : g c ≡ true) where
  pub paired : count_below n g ≡ 2 → Paired n g c (other n g c)
  unfolding other
  paired e =
      let d = first_below n (besides g c) in
      let one = count_besides n g c l p in
      let h : some_below n (besides g c) ≡ true = true_of _ (λ b. omega (arith, count_none (besides g c) n (none n (besides g c) b))) in
      let i = some_below_lem n (besides g c) h in
      let q = some_passes n (besides g c) h in
      let z : count_below n (besides (besides g c) d) ≡ 0 = omega (arith, count_besides n (besides g c) d i q) in
      record {
        inside = i;
        apart = eqb-false _ _ (not-true _ (and_right (g d) _ q));
        passes = and_left _ _ q;
        only = λ e b r. by_equal e c inl (λ s. by_equal e d inr (λ u. absurd (clash
            (sym (besides_other (besides g c) d e u) ∙ sym (besides_other g c e s) ∙ r)
            (none_counted _ n z e b))));
      }

  pub counted : (d : ℕ) → Paired n g c d → count_below n g ≡ 2
  counted d r =
      let q : besides g c d ≡ true = sym (besides_other g c d r.apart) ∙ r.passes in
      let z : count_below n (besides (besides g c) d) ≡ 0 =
      count_none (besides (besides g c) d) n (λ e b. false_of _ (λ t. ⊎_elim
      (λ (u : e ≡ c). clash (subst (λ (x : ℕ). besides g c x ≡ true) u (and_left _ _ t)) (besides_self g c))
      (λ (u : e ≡ d). clash (subst (λ (x : ℕ). besides (besides g c) d x ≡ true) u t) (besides_self (besides g c) d))
      (r.only e b (and_left _ _ (and_left _ _ t))))) in
      omega (arith, count_besides n g c l p, count_besides n (besides g c) d r.inside q)
