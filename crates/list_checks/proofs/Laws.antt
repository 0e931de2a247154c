-- What each test of the code says of the fault at its place.
use mathlib.Core.Path.{◌≡◌, refl, ap, ◌∙◌, sym}
use mathlib.Core.Bool.{Bool, true, false, not, cond}
use mathlib.Core.List.{List}
use Prim.Native.Nat.{ℕ, ◌*◌, ◌/◌, ◌%◌, ◌<◌, ◌≤◌}
use lib.Dec.{ltb, eqb}
use lib.ListN.{length, get_or}
use borrow.Author.Tests.{le-ltb, ltb-true, ltb-false, eq-eqb, ne_eqb}
use Rattle.paper.specs.Mesh.{most_vertices, most_faces, most_corners, most_sharpness, plain}
use Rattle.paper.specs.Corners.{sum_of}
use Rattle.paper.specs.Faults.{Verdict, sound, fault, ◌or_else◌, Told, stated, single, lowest_of, outside, fault4, fault27, fault6, fault28}
use Rattle.mesh.proofs.ByCases.{by_less}
use Rattle.mesh.proofs.Ranges.{or_left, or_right, or_none, outside_low, outside_high}
use Rattle.mesh.proofs.Accepted.{in_list}
use Rattle.mesh.proofs.Verdicts.{or_else_fault, single_hit, single_miss, lowest_hit, lowest_none}
use Rattle.paper.specs.declared.Refusal.{Refusal}
use Rattle.std.specs.Result.{IsErrAnd}
use Rattle.std.proofs.lemmas.Result.{err_from_is_err_and}
use Rattle.list_checks.specs.Entries.{at_found}
use Rattle.std.specs.Prelude.{Option, Some, None}
use Rattle.std.specs.List.{sum_by, position, position_or_len}
use Rattle.std.proofs.lemmas.List.Recursion.{is_sum_by}
use Rattle.std.proofs.lemmas.List.Sums.{fails_before_first, passes_at_first}
use native.Mathlib.Omega.{arith}

-- a number that is not in a range
pub out_of : (low high n : ℕ) → (low ≤ n → n ≤ high → ⊥) → outside low high n ≡ true
out_of low high n h =
    by_less n low (outside_low low high n) (λ a. by_less high n (outside_high low high n) (λ b. absurd (h a b)))

-- the lengths
module _ (n f c : ℕ) where
  pub no_thirds : (n % 3 ≡ 0 → ⊥) → fault4 n f c ≡ true
  unfolding fault4
  no_thirds h = or_left _ _ (ap not (ne_eqb (n % 3) 0 h))

  pub vertices_out : outside 1 most_vertices (n / 3) ≡ true → fault4 n f c ≡ true
  unfolding fault4
  vertices_out e = or_right (not (eqb (n % 3) 0)) _ (or_left _ _ e)

  pub faces_out : outside 1 most_faces f ≡ true → fault4 n f c ≡ true
  unfolding fault4
  faces_out e = or_right (not (eqb (n % 3) 0)) _ (or_right (outside 1 most_vertices (n / 3)) _ (or_left _ _ e))

  pub corners_out : outside 1 most_corners c ≡ true → fault4 n f c ≡ true
  unfolding fault4
  corners_out e = or_right (not (eqb (n % 3) 0)) _ (or_right (outside 1 most_vertices (n / 3)) _ (or_right (outside 1 most_faces f) _ e))

  pub lengths_fit : n % 3 ≡ 0 → outside 1 most_vertices (n / 3) ≡ false → outside 1 most_faces f ≡ false → outside 1 most_corners c ≡ false → fault4 n f c ≡ false
  unfolding fault4
  lengths_fit t u v w = or_none _ _ (ap not (eq-eqb (n % 3) 0 t)) (or_none _ _ u (or_none _ _ v w))

-- the sharpness list: its length, and its numbers
module _ (n corners : ℕ) where
  pub pairs_differ : (n ≡ 2 * corners → ⊥) → fault 27 n ≡ single 27 (fault27 n corners) n
  unfolding fault27
  pairs_differ h = sym (single_hit 27 n (ap not (ne_eqb n (2 * corners) h)))

  pub pairs_fit : n ≡ 2 * corners → sound ≡ single 27 (fault27 n corners) n
  unfolding fault27
  pairs_fit h = sym (single_miss 27 n (ap not (eq-eqb n (2 * corners) h)))

module _ (sharpness : List ℕ) (i : ℕ) (h : i < length sharpness) where
  pub not_too_sharp : get_or sharpness i 0 ≤ most_sharpness → fault28 sharpness i ≡ false
  unfolding fault28
  not_too_sharp l = rw (in_list sharpness i plain 0 h) (le-ltb most_sharpness (get_or sharpness i 0) l)

-- the sum
module _ (sides : List ℕ) (count total : ℕ) (e : total ≡ sum_of sides) where
  pub sum_differs : (total ≡ count → ⊥) → fault 6 total ≡ single 6 (fault6 sides count) (sum_of sides)
  unfolding fault6
  sum_differs n = ap (fault 6) e ∙ sym (single_hit 6 (sum_of sides) (ap not (ne_eqb (sum_of sides) count (λ q. n (e ∙ q)))))

  pub sum_fits : total ≡ count → sound ≡ single 6 (fault6 sides count) (sum_of sides)
  unfolding fault6
  sum_fits q = sym (single_miss 6 (sum_of sides) (ap not (eq-eqb (sum_of sides) count (sym e ∙ q))))

pub summed : (sides : List ℕ) → sum_of sides ≡ sum_by (λ s. s) sides
unfolding sum_of
summed sides = is_sum_by sum_of (λ s. s) refl (λ x xs. refl) sides

-- ---- the exit of a `?`: the refusal goes on as it is; it is that of the chain whose next check it states
pub handed : {A : Type 0} {v : Verdict} (b : Told A) (r : Refusal) → IsErrAnd b (λ e. e ≡ r) → fault r.number r.place ≡ v → stated b ≡ v
handed b r e q = let p = err_from_is_err_and b e in rw (p.1, p.2) q

pub stops : {v : Verdict} (k p : ℕ) (rest : Verdict) → fault k p ≡ v → fault k p ≡ v or_else rest
stops k p rest e = sym (or_else_fault k p rest (sym e))

-- what a search answers, by whether it found a place
placed : (k at : ℕ) (b : Bool) {v : Verdict} → (b ≡ true → v ≡ fault k at) → (b ≡ false → v ≡ sound) → at_found k (cond b (Some at) None) ≡ v
placed k at true hit miss = sym (hit refl)
placed k at false hit miss = sym (miss refl)

-- the fault where a search over a list stops is that of the lowest place where its test holds
pub lowest_found : {X : Type 0} (k : ℕ) (test : X → Bool) (xs : List X) (d : X) (r : Option ℕ) → r ≡ position test xs → at_found k r ≡ lowest_of k (length xs) (λ i. test (get_or xs i d))
lowest_found k test xs d r e =
    let at = position_or_len test xs in
    let before : (j : ℕ) → j < at → test (get_or xs j d) ≡ false = λ j h. fails_before_first test xs j d h in
    rw e (placed k at (ltb at (length xs))
    (λ h. lowest_hit k (length xs) _ at (ltb-true _ _ h) (passes_at_first test xs d (ltb-true _ _ h)) before)
    (λ h. lowest_none k (length xs) _ (λ j l. before j (omega (arith, ltb-false _ _ h)))))
