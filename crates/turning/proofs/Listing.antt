-- The faces of a choice as a list: each higher than the one before, and those that are turned and no others.
use mathlib.Core.Path.{◌≡◌, ap, ◌∙◌, sym, subst}
use mathlib.Core.Bool.{Bool, true}
use mathlib.Core.List.{List, ◌∷◌}
use Prim.Native.Nat.{ℕ, zero, suc, ◌+◌, ◌<◌, ◌≤◌}
use native.Mathlib.Omega.{arith}
use lib.ListN.{length, get_or, take, drop, get_or-append}
use lib.Seq.{take-append_seam}
use borrow.Author.Tests.{eq-eqb, ne_eqb}
use Rattle.paper.specs.Mesh.{Mesh, face_count}
use Rattle.paper.specs.File.{begins}
use Rattle.paper.specs.Nesting.{listed}
use Rattle.paper.specs.Turning.{faces_of, turns_of, turned_faces}
use Rattle.paper.specs.Claims.{ListingRises}
use Rattle.mesh.proofs.Scans.{clash, some_true, some_false}
use Rattle.mesh.proofs.ByCases.{by_test, by_equal, beyond}
use Rattle.reversing.proofs.Models.{faces_hit, faces_miss, faces_none}

module _ (t : ℕ → Bool) where
  -- what holds of the faces from `at` on among `left`
  pub record Rising (at left : ℕ) (l : List ℕ) : Type 0 where
    pub low : (i : ℕ) → i < length l → at ≤ get_or l i 0
    pub rises : (i j : ℕ) → i < j → j < length l → get_or l i 0 < get_or l j 0
    pub turned : (i : ℕ) → i < length l → t (get_or l i 0) ≡ true
    pub stands : (f : ℕ) → at ≤ f → f < at + left → t f ≡ true → (i : ℕ) × (i < length l) × (get_or l i 0 ≡ f)

  more : (at left : ℕ) (l : List ℕ) → t at ≡ true → Rising (suc at) left l → Rising at (suc left) (at ∷ l)
  more at left l e r =
      record {
        low = low_at;
        rises = rise_at;
        turned = turned_at;
        stands = λ f a b q. by_equal f at
            (λ x. (0, omega arith, sym x))
            (λ x. let s = r.stands f (beyond f at a x) (omega arith) q in (suc s.0, omega (arith, s.1), s.2));
      }
    where
      low_at : (i : ℕ) → i < length (at ∷ l) → at ≤ get_or (at ∷ l) i 0
      low_at zero h = omega arith
      low_at (suc i) h = let z = r.low i (omega arith) in omega arith

      rise_at : (i j : ℕ) → i < j → j < length (at ∷ l) → get_or (at ∷ l) i 0 < get_or (at ∷ l) j 0
      rise_at i zero a b = absurd (omega arith)
      rise_at zero (suc j) a b = let z = r.low j (omega arith) in omega arith
      rise_at (suc i) (suc j) a b = r.rises i j (omega arith) (omega arith)

      turned_at : (i : ℕ) → i < length (at ∷ l) → t (get_or (at ∷ l) i 0) ≡ true
      turned_at zero h = e
      turned_at (suc i) h = r.turned i (omega arith)

  pub rising : (at left : ℕ) → Rising at left (faces_of t at left)
  rising at zero =
      rw (faces_none t at)
      (record {
        low = λ i h. absurd (omega arith);
        rises = λ i j a b. absurd (omega arith);
        turned = λ i h. absurd (omega arith);
        stands = λ f a b q. absurd (omega arith);
      })
  rising at (suc left) =
      let r = rising (suc at) left in
      by_test (t at)
      (λ e. rw (faces_hit t at left e) (more at left _ e r))
      (λ e. rw (faces_miss t at left e)
      (record {
        low = λ i h. let z = r.low i h in omega arith;
        rises = r.rises;
        turned = r.turned;
        stands = λ f a b q. r.stands f (beyond f at a (λ z. clash q (ap t z ∙ e))) (omega arith) q;
      }))

  listed_is : (n f : ℕ) → f < n → listed (faces_of t 0 n) f ≡ t f
  unfolding listed
  listed_is n f h =
      let r = rising 0 n in
      by_test (t f)
      (λ e. let s = r.stands f (omega arith) (omega arith) e in some_true _ _ s.0 s.1 (eq-eqb _ f s.2) ∙ sym e)
      (λ e. some_false _ _ (λ i l. ne_eqb _ f (λ z. clash (subst (λ (x : ℕ). t x ≡ true) z (r.turned i l)) e)) ∙ sym e)

-- the turned faces rise
turned_rising : (M : Mesh) → Rising (turns_of M) 0 (face_count M) (turned_faces M)
turned_rising M = rising (turns_of M) 0 (face_count M)

pub listing_rises : ListingRises
listing_rises M lists old out n T =
    let many : n ≡ length (turned_faces M) = T.counts in
    let out-is : out ≡ begins (turned_faces M) old = T.listing_holds in
    let rest = drop (length (turned_faces M)) old in
    let at : (i : ℕ) → i < length (turned_faces M) → get_or out i 0 ≡ get_or (turned_faces M) i 0 =
    λ i l. ap (λ (x : List ℕ). get_or x i 0) out-is ∙ get_or-append (turned_faces M) rest 0 i l in (
      (λ i j a b. let bj : j < length (turned_faces M) = omega arith in
          let bi : i < length (turned_faces M) = omega arith in
          omega (arith, at i bi, at j bj, (turned_rising M).rises i j a bj)),
      (λ f h.
          ap (λ (x : List ℕ). listed x f) (ap (λ (n : ℕ). take n out) many ∙ ap (take (length (turned_faces M))) out-is ∙ take-append_seam (turned_faces M) rest)
          ∙ listed_is (turns_of M) (face_count M) f h),
    )
