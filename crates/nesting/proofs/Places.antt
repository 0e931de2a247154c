-- The listing as it is filled. While a body is unlisted whose chain leads to the Sun, some body of that chain may follow; and a listed
-- body's chain goes through listed ones to the Sun. So a filling that stops has listed exactly the bodies whose chains end at the Sun.
use mathlib.Core.Path.{◌≡◌, refl, sym, ap, ◌∙◌, subst}
use mathlib.Core.Bool.{Bool, true, false, not, ◌||◌}
use mathlib.Core.List.{List, [], ◌∷◌, ◌++◌}
use Prim.Native.Nat.{ℕ, zero, suc, ◌+◌, ◌<◌, ◌≤◌}
use native.Mathlib.Omega.{arith}
use lib.Dec.{leb, eqb}
use lib.ListN.{length, get_or, take, get_or-append}
use lib.Seq.{get_or_at, take-append-le, take_all}
use borrow.Author.Tests.{eqb-true, eqb-false, eq-eqb, ne_eqb, leb-false, not-false, not-true}
use Rattle.paper.specs.Scan.{pick_n, first_below, some_below, count_below, iterate}
use Rattle.paper.specs.Nesting.{most_bodies, sun, holder, chain, ends_at_sun, fault22, listed, may_follow, next_body, places, ReachesSun}
use Rattle.mesh.proofs.Scans.{clash, and_true, and_left, and_right, first_le, first_passes, first_fails}
use Rattle.mesh.proofs.Scans.{some_true, some_below_lem, some_passes, none}
use Rattle.mesh.proofs.Rings.{count_none, count_less, none_counted, iterate_zero, iterate_swap}
use Rattle.mesh.proofs.Ranges.{none_left, none_right}
use Rattle.mesh.proofs.ByCases.{by_test, by_equal, by_less, true_of, false_of, true_both}
use Rattle.nesting.proofs.Lists.{place_of_lem, none_listed, snoc_length, snoc_same, snoc_other, times, times_none, times_hit, times_miss, count_all}

or_other : (a b : Bool) → a ≡ false → a || b ≡ true → b ≡ true
or_other true b e f = absurd (clash refl e)
or_other false b e f = f

-- ---- what may follow a list
module _ (B l : List ℕ) where
  abbrev pub unlisted : ℕ
  unlisted = count_below (length B) (λ b. not (listed l b))

  pub may : (b : ℕ) → listed l b ≡ false → eqb (holder B b) sun || listed l (holder B b) ≡ true → may_follow B l b ≡ true
  unfolding may_follow
  may b e f = and_true _ _ (ap not e) f

  pub fresh : (b : ℕ) → may_follow B l b ≡ true → listed l b ≡ false
  unfolding may_follow
  fresh b e = not-true (listed l b) (and_left _ _ e)

  pub may_holder : (b : ℕ) → may_follow B l b ≡ true → (holder B b ≡ sun → ⊥) → listed l (holder B b) ≡ true
  unfolding may_follow
  may_holder b e d = or_other (eqb (holder B b) sun) _ (ne_eqb _ _ d) (and_right (not (listed l b)) _ e)

  pub next_may : next_body B l < length B → may_follow B l (next_body B l) ≡ true
  unfolding next_body
  next_may h = first_passes (length B) (may_follow B l) h

  pub next_le : (b : ℕ) → may_follow B l b ≡ true → next_body B l ≤ b
  unfolding next_body
  next_le b e = first_le (length B) (may_follow B l) b e

  pub lower : (b : ℕ) → b < next_body B l → may_follow B l b ≡ false
  unfolding next_body
  lower b h = first_fails (length B) (may_follow B l) b h

  -- one body more
  grows : (x : ℕ) → x < length B → listed l x ≡ false → unlisted ≡ suc (count_below (length B) (λ b. not (listed (l ++ (x ∷ [])) b)))
  grows x h e =
      count_less (λ b. not (listed l b)) (λ b. not (listed (l ++ (x ∷ [])) b)) (length B) x h (ap not e) (ap not (snoc_same l x))
      (λ b d. ap not (sym (snoc_other l x b d)))

-- ---- the places, whether or not a body was found for each
module _ (B : List ℕ) where
  pub places_zero : places B 0 ≡ []
  unfolding places
  places_zero = refl

  pub places_suc : (k : ℕ) → places B (suc k) ≡ places B k ++ (next_body B (places B k) ∷ [])
  unfolding places
  places_suc k = refl

  pub length_places : (k : ℕ) → length (places B k) ≡ k
  length_places zero = ap length places_zero
  length_places (suc k) = ap length (places_suc k) ∙ snoc_length (places B k) (next_body B (places B k)) ∙ ap suc (length_places k)

  -- the first i places stay, and place i has what comes next after them
  pub prefix : (k i : ℕ) → i ≤ k → take i (places B k) ≡ places B i
  prefix zero i l =
      let q : i ≡ 0 = omega arith in
      ap (λ (j : ℕ). take j (places B 0)) q ∙ sym places_zero ∙ ap (places B) (sym q)
  prefix (suc k) i l =
      by_equal i (suc k)
      (λ q. rw q (take_all (suc k) (places B (suc k)) (omega (arith, length_places (suc k)))))
      (λ q. ap (take i) (places_suc k) ∙ take-append-le i (places B k) (next_body B (places B k) ∷ []) (omega (arith, length_places k, q))
      ∙ prefix k i (omega (arith, q)))

  pub entry : (k i : ℕ) → i < k → get_or (places B k) i 0 ≡ next_body B (places B i)
  entry zero i l = absurd (omega arith)
  entry (suc k) i l =
      ap (λ (z : List ℕ). get_or z i 0) (places_suc k)
      ∙ by_equal i k
      (λ q. get_or_at (places B k) (next_body B (places B k)) [] 0 i (length_places k ∙ sym q) ∙ ap (λ (j : ℕ). next_body B (places B j)) (sym q))
      (λ q. let j : i < k = omega (arith, q) in
      get_or-append (places B k) (next_body B (places B k) ∷ []) 0 i (omega (arith, length_places k)) ∙ entry k i j)

  -- the first k places have bodies
  abbrev pub Occupied : ℕ → Type 0
  Occupied k = (i : ℕ) → i < k → next_body B (places B i) < length B

  pub run_step : (k : ℕ) → Occupied k → next_body B (places B k) < length B → Occupied (suc k)
  run_step k run h i l = by_equal i k (λ q. rw q h) (λ q. run i (omega (arith, q)))

-- ---- chains
module _ (B : List ℕ) where
  one_more_lem : (b k : ℕ) → chain B (holder B b) k ≡ sun → chain B b (suc k) ≡ sun
  unfolding chain iterate
  one_more_lem b k e = sym (iterate_swap (holder B) k 1 b) ∙ e

  no_step : (b : ℕ) → holder B b ≡ sun → chain B b 1 ≡ sun
  unfolding chain iterate
  no_step b e = e

  pub some_step : (b : ℕ) → ends_at_sun B b ≡ true → ReachesSun B b
  unfolding ends_at_sun
  some_step b e =
      let f : ℕ → Bool = λ k. eqb (chain B b k) sun in
      (first_below (suc (length B)) f, eqb-true (chain B b (first_below (suc (length B)) f)) sun (some_passes (suc (length B)) f e))

  within : (b k : ℕ) → k ≤ length B → chain B b k ≡ sun → ends_at_sun B b ≡ true
  unfolding ends_at_sun
  within b k h e = some_true (suc (length B)) (λ j. eqb (chain B b j) sun) k (omega arith) (eq-eqb (chain B b k) sun e)

-- ---- k places with bodies
module _ (B : List ℕ) (k : ℕ) (run : Occupied B k) where
  -- they leave n - k
  pub left_over_lem : (j : ℕ) → j ≤ k → unlisted B (places B j) + j ≡ length B
  left_over_lem zero h =
      omega (arith, ap (unlisted B) (places_zero B), count_all (λ b. not (listed [] b)) (length B) (λ j l. ap not (none_listed j)))
  left_over_lem (suc j) h =
      let x = next_body B (places B j) in
      let l : x < length B = run j h in
      let g = grows B (places B j) x l (fresh B (places B j) x (next_may B (places B j) l)) in
      omega (arith, ap (unlisted B) (places_suc B j), g, left_over_lem j (omega arith))

  -- each listed body has one place
  pub once_each : (j b : ℕ) → j ≤ k → times (places B j) b ≡ pick_n (listed (places B j) b) 1 0
  once_each zero b h =
      ap (λ (z : List ℕ). times z b) (places_zero B) ∙ times_none b
      ∙ sym (ap (λ (z : List ℕ). pick_n (listed z b) 1 0) (places_zero B) ∙ ap (λ (z : Bool). pick_n z 1 0) (none_listed b))
  once_each (suc j) b h =
      let l = places B j in
      let x = next_body B l in
      let f = fresh B l x (next_may B l (run j h)) in
      let before = once_each j b (omega arith) in
      ap (λ (z : List ℕ). times z b) (places_suc B j)
      ∙ by_equal x b
      (λ q. times_hit l x b (eq-eqb x b q)
      ∙ ap suc (before ∙ ap (λ (z : Bool). pick_n z 1 0) (subst (λ (z : ℕ). listed l z ≡ false) q f))
      ∙ sym (ap (λ (z : Bool). pick_n z 1 0) (subst (λ (z : ℕ). listed (l ++ (x ∷ [])) z ≡ true) q (snoc_same l x))))
      (λ q. times_miss l x b (ne_eqb x b q) ∙ before ∙ sym (ap (λ (z : Bool). pick_n z 1 0) (snoc_other l x b (λ e. q (sym e)))))
      ∙ ap (λ (z : List ℕ). pick_n (listed z b) 1 0) (sym (places_suc B j))

  -- the body at place i is at most i + 1 steps from the Sun
  steps : (fuel i : ℕ) → i < fuel → i < k → (m : ℕ) × (m ≤ suc i) × (chain B (next_body B (places B i)) m ≡ sun)
  steps zero i l h = absurd (omega arith)
  steps (suc fuel) i l h =
      let c = next_body B (places B i) in
      by_equal (holder B c) sun
      (λ q. (1, omega arith, no_step B c q))
      (λ q. let p = place_of_lem (places B i) (holder B c) (may_holder B (places B i) c (next_may B (places B i) (run i h)) q) in
      let j : p.0 < i = omega (arith, p.1, length_places B i) in
      let r = steps fuel p.0 (omega arith) (omega arith) in
      let e : next_body B (places B p.0) ≡ holder B c = sym (entry B i p.0 j) ∙ p.2 in
      (suc r.0, omega (arith, r.1), one_more_lem B c r.0 (rw e at r.2)))

  pub listed_ends : (b : ℕ) → listed (places B k) b ≡ true → ends_at_sun B b ≡ true
  listed_ends b t =
      let p = place_of_lem (places B k) b t in
      let i : p.0 < k = omega (arith, p.1, length_places B k) in
      let r = steps (suc p.0) p.0 (omega arith) i in
      let e : next_body B (places B p.0) ≡ b = sym (entry B k p.0 i) ∙ p.2 in
      within B b r.0 (omega (arith, r.1, left_over_lem k (omega arith))) (rw e at r.2)

  pub all_listed : k ≡ length B → (b : ℕ) → b < length B → listed (places B k) b ≡ true
  all_listed e b h =
      not-false (listed (places B k) b) (none_counted (λ c. not (listed (places B k) c)) (length B) (omega (arith, left_over_lem k (omega arith))) b h)

  pub all_filled : ((b : ℕ) → b < length B → listed (places B k) b ≡ true) → k ≡ length B
  all_filled t = omega (arith, left_over_lem k (omega arith), count_none (λ b. not (listed (places B k) b)) (length B) (λ j h. ap not (t j h)))

-- ---- a table that passes 21 and 22
module _ (B : List ℕ) (few : length B ≤ most_bodies) (held : (b : ℕ) → b < length B → fault22 B b ≡ false) where
  holder_in : (b : ℕ) → b < length B → (holder B b ≡ sun → ⊥) → holder B b < length B
  unfolding fault22
  holder_in b h d =
      leb-false _ _ (false_of (leb (length B) (holder B b)) (λ e. clash (and_true _ _ e (ap not (ne_eqb (holder B b) sun d))) (held b h)))

  -- along the chain of an unlisted body, one may follow
  follow : (l : List ℕ) (k b : ℕ) → b < length B → listed l b ≡ false → chain B b k ≡ sun → next_body B l < length B
  unfolding chain iterate
  follow l zero b h e s = absurd (omega (arith, iterate_zero (holder B) b, few))
  follow l (suc k) b h e s =
      by_test (eqb (holder B b) sun || listed l (holder B b))
      (λ q. omega (arith, next_le B l b (may B l b e q)))
      (λ q. follow l k (holder B b) (holder_in b h (eqb-false _ _ (none_left _ _ q))) (none_right (eqb (holder B b) sun) _ q)
      (iterate_swap (holder B) k 1 b ∙ s))

  -- a filling that stopped has listed the bodies whose chains end at the Sun, and no others
  abbrev pub Stopped : ℕ → Type 0
  Stopped k = k < length B → length B ≤ next_body B (places B k)

  pub ends_listed : (k : ℕ) → Occupied B k → Stopped k → (b : ℕ) → b < length B → ReachesSun B b → listed (places B k) b ≡ true
  ends_listed k run stop b h s =
      true_of _ (λ e. by_equal k (length B)
      (λ q. clash (all_listed B k run q b h) e)
      (λ q. omega (arith, stop (omega (arith, q, left_over_lem B k run k (omega arith))), follow (places B k) s.0 b h e s.1)))

  pub decided : (k : ℕ) → Occupied B k → Stopped k → (b : ℕ) → b < length B → listed (places B k) b ≡ ends_at_sun B b
  decided k run stop b h = true_both _ _ (listed_ends B k run b) (λ t. ends_listed k run stop b h (some_step B b t))

  -- a filling goes on until it has stopped
  filled : (left k : ℕ) → left + k ≡ length B → Occupied B k → (j : ℕ) × Occupied B j × Stopped j
  filled zero k e run = (k, run, λ h. absurd (omega arith))
  filled (suc left) k e run =
      by_less (next_body B (places B k)) (length B)
      (λ l. filled left (suc k) (omega arith) (run_step B k run l))
      (λ l. (k, run, λ h. l))

  -- a chain that ends after however many steps ends within as many as there are bodies
  pub ends_soon : (b : ℕ) → b < length B → ReachesSun B b → ends_at_sun B b ≡ true
  ends_soon b h s =
      let f = filled (length B) 0 (omega arith) (λ i l. absurd (omega arith)) in
      listed_ends B f.0 f.1 b (ends_listed f.0 f.1 f.2 b h s)

  -- where all chains end, the listing never stands still
  module _ (ends : (b : ℕ) → b < length B → ReachesSun B b) where
    further : (k : ℕ) → Occupied B k → k < length B → next_body B (places B k) < length B
    further k run h =
        let u : ℕ → Bool = λ b. not (listed (places B k) b) in
        by_test (some_below (length B) u)
        (λ e. let b = first_below (length B) u in
        let l : b < length B = some_below_lem (length B) u e in
        follow (places B k) (ends b l).0 b l (not-true _ (some_passes (length B) u e)) (ends b l).1)
        (λ e. absurd (omega (arith, count_none u (length B) (none (length B) u e), left_over_lem B k run k (omega arith))))

    pub runs : (k : ℕ) → k ≤ length B → Occupied B k
    runs zero h = λ i l. absurd (omega arith)
    runs (suc k) h = let before = runs k (omega arith) in run_step B k before (further k before h)
