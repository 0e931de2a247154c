-- Steps over shared edges: the faces that k steps lead to grow with k until nothing is new, which takes at most as many steps as there are faces.
use mathlib.Core.Path.{◌≡◌, refl, ap, ◌∙◌, sym, subst}
use mathlib.Core.Bool.{Bool, true, false, not, ◌&&◌}
use mathlib.Core.Logic.{◌⊎◌, inl, inr, ⊎_elim}
use mathlib.Core.List.{List}
use Prim.Native.Nat.{ℕ, zero, suc, ◌+◌, ◌<◌, ◌≤◌}
use native.Mathlib.Omega.{arith}
use lib.Dec.{eqb}
use lib.ListN.{length}
use borrow.Author.Tests.{eqb-true, eq-eqb, not-true}
use Rattle.paper.specs.Scan.{first_below, some_below, count_below}
use Rattle.paper.specs.Corners.{face_of}
use Rattle.paper.specs.Turning.{shares_edge, adjoin, in_steps, connected}
use Rattle.mesh.proofs.Ranges.{or_left, or_right}
use Rattle.mesh.proofs.Scans.{clash, and_true, and_left, and_right, some_true, some_below_lem, some_passes, none}
use Rattle.mesh.proofs.Rings.{count_hit, count_miss, count_le}
use Rattle.mesh.proofs.ByCases.{by_test, by_equal, true_of}
use Rattle.partners.proofs.SharedEdges.{either}

-- counts of two tests, one within the other
module _ (g h : ℕ → Bool) (inside : (j : ℕ) → g j ≡ true → h j ≡ true) where
  -- where the count of g rises, that of h does
  count_rise : (n : ℕ) → count_below (suc n) g + count_below n h ≤ count_below n g + count_below (suc n) h
  count_rise n =
      by_test (g n)
      (λ e. omega (arith, count_hit g n e, count_hit h n (inside n e)))
      (λ e. by_test (h n) (λ b. omega (arith, count_miss g n e, count_hit h n b)) (λ b. omega (arith, count_miss g n e, count_miss h n b)))

  count_within : (n : ℕ) → count_below n g ≤ count_below n h
  count_within zero = unfold count_below in omega arith
  count_within (suc n) = omega (arith, count_within n, count_rise n)

  count_more : (n x : ℕ) → x < n → g x ≡ false → h x ≡ true → count_below n g < count_below n h
  count_more zero x l p q = absurd (omega arith)
  count_more (suc n) x l p q =
      by_equal x n
      (λ e. omega (arith, count_miss g n (ap g (sym e) ∙ p), count_hit h n (ap h (sym e) ∙ q), count_within n))
      (λ e. omega (arith, count_more n x (omega (arith, e)) p q, count_rise n))

module _ (sides corners : List ℕ) where
  -- corners that share an edge make their faces adjoin
  pub adjoins : (c d : ℕ) → c < length corners → d < length corners → shares_edge sides corners c d ≡ true
      → adjoin sides corners (face_of sides c) (face_of sides d) ≡ true
  unfolding adjoin
  adjoins c d h l s =
      some_true (length corners) _ c h (and_true _ _ (eq-eqb (face_of sides c) (face_of sides c) refl)
      (some_true (length corners) _ d l (and_true _ _ (eq-eqb (face_of sides d) (face_of sides d) refl) s)))

  -- and the other way round
  pub record Sharing (f g c d : ℕ) : Type 0 where
    pub first_in : c < length corners
    pub second_in : d < length corners
    pub first_of_lem : face_of sides c ≡ f
    pub second_of : face_of sides d ≡ g
    pub shares : shares_edge sides corners c d ≡ true

  pub first_sharing : ℕ → ℕ → ℕ
  first_sharing f g =
      first_below (length corners)
      (λ c. eqb (face_of sides c) f && some_below (length corners) (λ d. eqb (face_of sides d) g && shares_edge sides corners c d))

  pub second_sharing : ℕ → ℕ → ℕ
  second_sharing f g = first_below (length corners) (λ d. eqb (face_of sides d) g && shares_edge sides corners (first_sharing f g) d)

  pub sharing : (f g : ℕ) → adjoin sides corners f g ≡ true → Sharing f g (first_sharing f g) (second_sharing f g)
  unfolding adjoin first_sharing second_sharing
  sharing f g e =
      let p = some_passes (length corners) _ e in
      let q = and_right (eqb (face_of sides (first_sharing f g)) f) _ p in
      let b = some_passes (length corners) _ q in
      record {
        first_in = some_below_lem (length corners) _ e;
        second_in = some_below_lem (length corners) _ q;
        first_of_lem = eqb-true _ _ (and_left _ _ p);
        second_of = eqb-true _ _ (and_left _ _ b);
        shares = and_right (eqb (face_of sides (second_sharing f g)) g) _ b;
      }

  module _ (f : ℕ) where
    pub here : (k : ℕ) → in_steps sides corners k f f ≡ true
    unfolding in_steps
    here zero = eq-eqb f f refl
    here (suc k) = or_left _ _ (here k)

    pub more : (k x : ℕ) → in_steps sides corners k f x ≡ true → in_steps sides corners (suc k) f x ≡ true
    unfolding in_steps
    more k x e = or_left _ _ e

    pub step : (k h x : ℕ) → h < length sides → in_steps sides corners k f h ≡ true → adjoin sides corners h x ≡ true → in_steps sides corners (suc k) f x ≡ true
    unfolding in_steps
    step k h x l e a = or_right (in_steps sides corners k f x) _ (some_true (length sides) _ h l (and_true _ _ e a))

    pub record Stepped (k x h : ℕ) : Type 0 where
      pub inside : h < length sides
      pub from : in_steps sides corners k f h ≡ true
      pub over : adjoin sides corners h x ≡ true

    -- the last step
    pub from_face : ℕ → ℕ → ℕ
    from_face k x = first_below (length sides) (λ h. in_steps sides corners k f h && adjoin sides corners h x)

    pub last_step : (k x : ℕ) → in_steps sides corners (suc k) f x ≡ true → (in_steps sides corners k f x ≡ true) ⊎ Stepped k x (from_face k x)
    unfolding in_steps from_face
    last_step k x e =
        ⊎_elim inl
        (λ p. let q = some_passes (length sides) _ p in
        inr (record {
          inside = some_below_lem (length sides) _ p;
          from = and_left _ _ q;
          over = and_right (in_steps sides corners k f (from_face k x)) _ q;
        }))
        (either (in_steps sides corners k f x) _ e)

    -- nothing is new after k steps
    Still : ℕ → Type 0
    Still k = (x : ℕ) → x < length sides → in_steps sides corners (suc k) f x ≡ true → in_steps sides corners k f x ≡ true

    new : ℕ → ℕ → Bool
    new k x = in_steps sides corners (suc k) f x && not (in_steps sides corners k f x)

    still_on : (k : ℕ) → Still k → Still (suc k)
    unfolding Still
    still_on k s x l e =
        ⊎_elim (λ p. p)
        (λ (r : Stepped (suc k) x (from_face (suc k) x)). step k _ x r.inside (s _ r.inside r.from) r.over)
        (last_step (suc k) x e)

    grows : (k : ℕ) → Still k ⊎ (count_below (length sides) (in_steps sides corners k f) < count_below (length sides) (in_steps sides corners (suc k) f))
    unfolding Still new
    grows k =
        by_test (some_below (length sides) (new k))
        (λ e. inr (
        let x = first_below (length sides) (new k) in
        let p = some_passes (length sides) (new k) e in
        count_more (in_steps sides corners k f) (in_steps sides corners (suc k) f) (more k) (length sides) x (some_below_lem (length sides) (new k) e)
        (not-true _ (and_right (in_steps sides corners (suc k) f x) _ p)) (and_left _ _ p)))
        (λ e. inl (λ x l p. true_of _ (λ q. clash (and_true _ _ p (ap not q)) (none (length sides) (new k) e x l))))

    still_or_more : (k : ℕ) → Still k ⊎ (k < count_below (length sides) (in_steps sides corners (suc k) f))
    still_or_more zero = ⊎_elim inl (λ g. inr (omega arith)) (grows zero)
    still_or_more (suc k) = ⊎_elim (λ s. inl (still_on k s)) (λ m. ⊎_elim inl (λ g. inr (omega arith)) (grows (suc k))) (still_or_more k)

    still : Still (length sides)
    still =
        ⊎_elim (λ s. s) (λ m. absurd (omega (arith, count_le (in_steps sides corners (suc (length sides)) f) (length sides)))) (still_or_more (length sides))

    -- so no face is farther
    stays : (k : ℕ) → Still k → (j x : ℕ) → x < length sides → in_steps sides corners (j + k) f x ≡ true → in_steps sides corners k f x ≡ true
    unfolding Still
    stays k s zero x l e = subst (λ (n : ℕ). in_steps sides corners n f x ≡ true) (omega arith) e
    stays k s (suc j) x l e =
        ⊎_elim (stays k s j x l)
        (λ (r : Stepped (j + k) x (from_face (j + k) x)). s x l (step k _ x r.inside (stays k s j _ r.inside r.from) r.over))
        (last_step (j + k) x (subst (λ (n : ℕ). in_steps sides corners n f x ≡ true) (omega arith) e))

    later : (k j x : ℕ) → in_steps sides corners k f x ≡ true → in_steps sides corners (j + k) f x ≡ true
    later k zero x e = subst (λ (n : ℕ). in_steps sides corners n f x ≡ true) (omega arith) e
    later k (suc j) x e = subst (λ (n : ℕ). in_steps sides corners n f x ≡ true) (omega arith) (more (j + k) x (later k j x e))

    pub none_later : (k x : ℕ) → x < length sides → in_steps sides corners k f x ≡ true → connected sides corners f x ≡ true
    unfolding connected
    none_later k x l e = stays (length sides) still k x l (subst (λ (n : ℕ). in_steps sides corners n f x ≡ true) (omega arith) (later k (length sides) x e))

    pub still_joins : (h x : ℕ) → h < length sides → x < length sides → connected sides corners f h ≡ true → adjoin sides corners h x ≡ true
        → connected sides corners f x ≡ true
    unfolding connected Still
    still_joins h x l m e a = still x m (step (length sides) h x l e a)
