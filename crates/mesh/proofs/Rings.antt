-- A step that keeps a finite set and is injective on it, followed from a member: it comes back, and it meets every member
-- where it comes back after as many steps as there are members. Met members are counted one at a time.
use mathlib.Core.Path.{◌≡◌, refl, ap, ◌∙◌, sym, subst}
use mathlib.Core.Bool.{Bool, true, false, not, ◌&&◌}
use mathlib.Core.Logic.{⊎_elim}
use Prim.Native.Nat.{ℕ, zero, suc, ◌+◌, ◌-◌, ◌<◌, ◌≤◌}
use native.Mathlib.Omega.{arith}
use lib.Dec.{eqb}
use borrow.Author.Tests.{eqb-true, eq-eqb, ne_eqb}
use Rattle.paper.specs.Scan.{first_below, some_below, count_below, iterate}
use Rattle.paper.specs.Manifold.{Returns}
use Rattle.mesh.proofs.Scans.{ways, clash, compared, and_true, first_passes, first_fails, some_true, some_false, some_below_lem, some_passes, none}

-- counts
module _ (g : ℕ → Bool) where
  pub count_hit : (n : ℕ) → g n ≡ true → count_below (suc n) g ≡ suc (count_below n g)
  unfolding count_below
  count_hit n e = rw e (omega arith)

  pub count_miss : (n : ℕ) → g n ≡ false → count_below (suc n) g ≡ count_below n g
  unfolding count_below
  count_miss n e = rw e (omega arith)

  count_zero : count_below 0 g ≡ 0
  unfolding count_below
  count_zero = refl

  pub count_le : (n : ℕ) → count_below n g ≤ n
  count_le zero = omega (arith, count_zero)
  count_le (suc n) = ⊎_elim (λ e. omega (arith, count_hit n e, count_le n)) (λ e. omega (arith, count_miss n e, count_le n)) (ways (g n))

  pub count_none : (n : ℕ) → ((j : ℕ) → j < n → g j ≡ false) → count_below n g ≡ 0
  count_none zero h = count_zero
  count_none (suc n) h = omega (arith, count_miss n (h n (omega arith)), count_none n (λ j l. h j (omega arith)))

  pub none_counted : (n : ℕ) → count_below n g ≡ 0 → (j : ℕ) → j < n → g j ≡ false
  none_counted zero e j h = absurd (omega arith)
  none_counted (suc n) e j h =
      ⊎_elim
      (λ b. absurd (omega (arith, count_hit n b)))
      (λ b. ⊎_elim
      (λ (q : j ≡ n). subst (λ (k : ℕ). g k ≡ false) (sym q) b)
      (λ o. none_counted n (omega (arith, count_miss n b)) j (⊎_elim (λ (l : j < n). l) (λ (l : n < j). absurd (omega arith)) o))
      (compared j n))
      (ways (g n))

module _ (g h : ℕ → Bool) where
  pub count_same : (n : ℕ) → ((j : ℕ) → j < n → g j ≡ h j) → count_below n g ≡ count_below n h
  count_same zero s = count_zero g ∙ sym (count_zero h)
  count_same (suc n) s =
      ⊎_elim
      (λ b. omega (arith, count_hit g n b, count_hit h n (sym (s n (omega arith)) ∙ b), count_same n (λ j l. s j (omega arith))))
      (λ b. omega (arith, count_miss g n b, count_miss h n (sym (s n (omega arith)) ∙ b), count_same n (λ j l. s j (omega arith))))
      (ways (g n))

  -- one member removed
  pub count_less : (n x : ℕ) → x < n → g x ≡ true → h x ≡ false → ((j : ℕ) → (j ≡ x → ⊥) → g j ≡ h j) → count_below n g ≡ suc (count_below n h)
  count_less zero x l p q s = absurd (omega arith)
  count_less (suc n) x l p q s =
      ⊎_elim
      (λ (e : x ≡ n).
      omega (
        arith,
        count_hit g n (subst (λ (k : ℕ). g k ≡ true) e p),
        count_miss h n (subst (λ (k : ℕ). h k ≡ false) e q),
        count_same n (λ j b. s j (λ e'. omega arith)),
      ))
      (λ o. let xn : x < n = ⊎_elim (λ (b : x < n). b) (λ (b : n < x). absurd (omega arith)) o in
      let r : count_below n g ≡ suc (count_below n h) = count_less n x xn p q s in
      let nx : n ≡ x → ⊥ = λ e. omega arith in
      ⊎_elim
      (λ b. omega (arith, count_hit g n b, count_hit h n (sym (s n nx) ∙ b)))
      (λ b. omega (arith, count_miss g n b, count_miss h n (sym (s n nx) ∙ b)))
      (ways (g n)))
      (compared x n)

-- steps
module _ (step : ℕ → ℕ) where
  pub iterate_suc : (k c : ℕ) → iterate (suc k) step c ≡ step (iterate k step c)
  unfolding iterate
  iterate_suc k c = refl

  pub iterate_zero : (c : ℕ) → iterate 0 step c ≡ c
  unfolding iterate
  iterate_zero c = refl

  pub iterate_inner : (k c : ℕ) → iterate k step (step c) ≡ step (iterate k step c)
  iterate_inner zero c = iterate_zero (step c) ∙ ap step (sym (iterate_zero c))
  iterate_inner (suc k) c = iterate_suc k (step c) ∙ ap step (iterate_inner k c) ∙ ap step (sym (iterate_suc k c))

  pub iterate_swap : (a b c : ℕ) → iterate a step (iterate b step c) ≡ iterate b step (iterate a step c)
  iterate_swap a zero c = ap (iterate a step) (iterate_zero c) ∙ sym (iterate_zero (iterate a step c))
  iterate_swap a (suc b) c =
      ap (iterate a step) (iterate_suc b c) ∙ iterate_inner a (iterate b step c) ∙ ap step (iterate_swap a b c) ∙ sym (iterate_suc b (iterate a step c))

  pub iterate_add : (a b c : ℕ) → iterate a step (iterate b step c) ≡ iterate (a + b) step c
  iterate_add zero b c = iterate_zero (iterate b step c) ∙ ap (λ (k : ℕ). iterate k step c) (let q : b ≡ zero + b = omega arith in q)
  iterate_add (suc a) b c =
      iterate_suc a (iterate b step c) ∙ ap step (iterate_add a b c) ∙ sym (iterate_suc (a + b) c)
      ∙ ap (λ (k : ℕ). iterate k step c) (let q : suc (a + b) ≡ suc a + b = omega arith in q)

and_all : (b : Bool) → b && true ≡ b
and_all true = refl
and_all false = refl

pub and_not : (a b : Bool) → a ≡ true → a && not b ≡ false → b ≡ true
and_not a true p q = refl
and_not a false p q = absurd (clash (and_true a true p refl) q)

-- what is followed
pub record Turns (n : ℕ) (f : ℕ → Bool) (step : ℕ → ℕ) (start : ℕ) : Type 0 where
  pub start_in : start < n
  pub start_of_lem : f start ≡ true
  pub step_in : (c : ℕ) → c < n → f c ≡ true → step c < n
  pub step_of_lem : (c : ℕ) → c < n → f c ≡ true → f (step c) ≡ true
  pub injective : (c d : ℕ) → c < n → d < n → f c ≡ true → f d ≡ true → step c ≡ step d → c ≡ d

-- c is among the first k met
abbrev pub met_by : (ℕ → ℕ) → ℕ → ℕ → ℕ → Bool
met_by step start k c = some_below k (λ j. eqb (iterate j step start) c)

-- a member that is not
abbrev pub unmet : (ℕ → Bool) → (ℕ → ℕ) → ℕ → ℕ → ℕ → Bool
unmet f step start k c = f c && not (met_by step start k c)

-- the steps until the start comes back
abbrev pub period : ℕ → (ℕ → ℕ) → ℕ → ℕ
period n step start = suc (first_below n (λ j. eqb (iterate (suc j) step start) start))

module _ (n : ℕ) (f : ℕ → Bool) (step : ℕ → ℕ) (start : ℕ) (t : Turns n f step start) where
  abbrev at : ℕ → ℕ
  at j = iterate j step start

  both : (j : ℕ) → (at j < n) × (f (at j) ≡ true)
  unfolding iterate
  both zero = (t.start_in, t.start_of_lem)
  both (suc j) = let r = both j in (t.step_in (at j) r.0 r.1, t.step_of_lem (at j) r.0 r.1)

  -- two members equal, k steps apart: k steps come back
  shift : (i j k : ℕ) → j ≡ i + k → at j ≡ at i → at k ≡ start
  shift zero j k e q = ap (λ (x : ℕ). iterate x step start) (let r : k ≡ j = omega arith in r) ∙ q ∙ iterate_zero step start
  shift (suc i) zero k e q = absurd (omega arith)
  shift (suc i) (suc j) k e q =
      shift i j k (omega arith)
      (t.injective (at j) (at i) (both j).0 (both i).0 (both j).1 (both i).1 (sym (iterate_suc step j start) ∙ q ∙ iterate_suc step i start))

  -- the start does not come back within the first k members
  abbrev Fresh : ℕ → Type 0
  Fresh k = (j : ℕ) → 0 < j → j < k → at j ≡ start → ⊥

  -- a member does not come twice among them
  distinct : (k i j : ℕ) → Fresh k → i < j → j < k → at j ≡ at i → ⊥
  distinct k i j fr a b e = fr (j - i) (omega arith) (omega arith) (shift i j (j - i) (omega arith) e)

  new : (k : ℕ) → Fresh (suc k) → met_by step start k (at k) ≡ false
  new k fr = some_false k (λ j. eqb (at j) (at k)) (λ j l. ne_eqb (at j) (at k) (λ e. distinct (suc k) j k fr l (omega arith) (sym e)))

  -- one more is met
  met_suc : (k c : ℕ) → (c ≡ at k → ⊥) → met_by step start k c ≡ met_by step start (suc k) c
  met_suc k c ne =
      ⊎_elim
      (λ b. b ∙ sym (some_true (suc k) (λ j. eqb (at j) c) _ (omega (arith, some_below_lem k (λ j. eqb (at j) c) b)) (some_passes k (λ j. eqb (at j) c) b)))
      (λ b. b ∙ sym (some_false (suc k) (λ j. eqb (at j) c) (λ j l.
      ⊎_elim
      (λ (q : j ≡ k). ne_eqb (at j) c (λ e. ne (sym e ∙ ap (λ (x : ℕ). at x) q)))
      (λ o. none k (λ j. eqb (at j) c) b j (⊎_elim (λ (l' : j < k). l') (λ (l' : k < j). absurd (omega arith)) o))
      (compared j k))))
      (ways (met_by step start k c))

  -- the members not met yet and those met make up all
  counted : (k : ℕ) → Fresh k → count_below n (unmet f step start k) + k ≡ count_below n f
  counted zero fr =
      omega (arith, count_same (unmet f step start 0) f n (λ j l. rw (some_false 0 (λ i. eqb (at i) j) (λ i z. absurd (omega arith))) (and_all (f j))))
  counted (suc k) fr =
      omega (
        arith,
        counted k (λ j a b. fr j a (omega arith)),
        count_less (unmet f step start k) (unmet f step start (suc k)) n (at k) (both k).0
            (rw ((both k).1, new k fr))
            (rw ((both k).1, some_true (suc k) (λ j. eqb (at j) (at k)) k (omega arith) (eq-eqb (at k) (at k) refl)))
            (λ j ne. rw (met_suc k j ne)),
      )

  fresh : Fresh (period n step start)
  fresh zero a b e = absurd (omega arith)
  fresh (suc j) a b e = clash (eq-eqb (at (suc j)) start e) (first_fails n (λ j. eqb (at (suc j)) start) j (omega arith))

  -- the start comes back, after at most as many steps as there are members
  pub period_le : period n step start ≤ count_below n f
  period_le = omega (arith, counted (period n step start) fresh)

  pub comes_back : iterate (period n step start) step start ≡ start
  comes_back = eqb-true _ _ (first_passes n (λ j. eqb (at (suc j)) start) (omega (arith, period_le, count_le f n)))

  -- every member is met where the steps are as many as the members, and only there
  pub all_met : ((c : ℕ) → c < n → unmet f step start (period n step start) c ≡ false) → period n step start ≡ count_below n f
  all_met h = omega (arith, counted (period n step start) fresh, count_none (unmet f step start (period n step start)) n h)

  pub met_all : period n step start ≡ count_below n f → (c : ℕ) → c < n → unmet f step start (period n step start) c ≡ false
  met_all e = none_counted (unmet f step start (period n step start)) n (omega (arith, counted (period n step start) fresh))

  -- where every member is met, as many steps as there are members lead back from each, and fewer do not
  pub turn : ((c : ℕ) → c < n → unmet f step start (period n step start) c ≡ false) → (c : ℕ) → c < n → f c ≡ true → Returns step (count_below n f) c
  turn h c l e =
      let b = and_not (f c) (met_by step start (period n step start) c) e (h c l) in
      let i = first_below (period n step start) (λ j. eqb (at j) c) in
      let q : at i ≡ c = eqb-true _ _ (some_passes (period n step start) (λ j. eqb (at j) c) b) in
      let p : period n step start ≡ count_below n f = all_met h in
      subst (Returns step (count_below n f)) q
      (subst (λ (m : ℕ). Returns step m (at i)) p
      (record {
        back = iterate_swap step (period n step start) i start ∙ ap (iterate i step) comes_back;
        before = λ j a z r. fresh j a z (shift i (j + i) j (omega arith) (sym (iterate_add step j i start) ∙ r));
      }))
