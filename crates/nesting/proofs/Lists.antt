-- A body's place in a list, a list with one body more, and how often a body stands in it.
use mathlib.Core.Path.{◌≡◌, refl, sym, ap, ◌∙◌}
use mathlib.Core.Bool.{Bool, true, false}
use mathlib.Core.List.{List, [], ◌∷◌, ◌++◌}
use Prim.Native.Nat.{ℕ, zero, suc, ◌<◌, ◌≤◌}
use native.Mathlib.Omega.{arith}
use lib.Dec.{eqb}
use lib.ListN.{length, get_or, length-append, get_or-append}
use lib.Seq.{get_or_at}
use borrow.Author.Tests.{eqb-true, eq-eqb}
use Rattle.paper.specs.Scan.{first_below, count_below}
use Rattle.paper.specs.Nesting.{listed}
use Rattle.mesh.proofs.Scans.{clash, some_true, some_false, some_below_lem, some_passes}
use Rattle.mesh.proofs.ByCases.{by_test, by_equal, true_both}
use Rattle.mesh.proofs.Rings.{count_hit, count_miss, count_none, count_same, none_counted}

-- ---- standing in a list
pub listed_at : (l : List ℕ) (b i : ℕ) → i < length l → get_or l i 0 ≡ b → listed l b ≡ true
unfolding listed
listed_at l b i h e = some_true (length l) (λ j. eqb (get_or l j 0) b) i h (eq-eqb (get_or l i 0) b e)

pub place_of_lem : (l : List ℕ) (b : ℕ) → listed l b ≡ true → (i : ℕ) × (i < length l) × (get_or l i 0 ≡ b)
unfolding listed
place_of_lem l b e =
    let f : ℕ → Bool = λ j. eqb (get_or l j 0) b in
    (first_below (length l) f, some_below_lem (length l) f e, eqb-true (get_or l (first_below (length l) f) 0) b (some_passes (length l) f e))

pub none_listed : (b : ℕ) → listed [] b ≡ false
unfolding listed
none_listed b = some_false 0 _ (λ j h. absurd (omega arith))

-- ---- one body more
module _ (l : List ℕ) (x : ℕ) where
  pub snoc_length : length (l ++ (x ∷ [])) ≡ suc (length l)
  snoc_length = omega (arith, length-append l (x ∷ []))

  snoc_last : get_or (l ++ (x ∷ [])) (length l) 0 ≡ x
  snoc_last = get_or_at l x [] 0 (length l) refl

  pub snoc_same : listed (l ++ (x ∷ [])) x ≡ true
  snoc_same = listed_at (l ++ (x ∷ [])) x (length l) (omega (arith, snoc_length)) snoc_last

  pub snoc_other : (b : ℕ) → (b ≡ x → ⊥) → listed (l ++ (x ∷ [])) b ≡ listed l b
  snoc_other b d =
      true_both _ _
      (λ g. let p = place_of_lem (l ++ (x ∷ [])) b g in
      by_equal p.0 (length l)
      (λ q. absurd (d (sym p.2 ∙ get_or_at l x [] 0 p.0 (sym q))))
      (λ q. let i : p.0 < length l = omega (arith, snoc_length, p.1, q) in
      listed_at l b p.0 i (sym (get_or-append l (x ∷ []) 0 p.0 i) ∙ p.2)))
      (λ e. let p = place_of_lem l b e in
      listed_at (l ++ (x ∷ [])) b p.0 (omega (arith, snoc_length, p.1)) (get_or-append l (x ∷ []) 0 p.0 p.1 ∙ p.2))

-- ---- how often a body stands in a list
abbrev pub times : List ℕ → ℕ → ℕ
times l b = count_below (length l) (λ i. eqb (get_or l i 0) b)

pub times_none : (b : ℕ) → times [] b ≡ 0
times_none b = count_none (λ i. eqb 0 b) 0 (λ j h. absurd (omega arith))

module _ (l : List ℕ) (x b : ℕ) where
  longer : ℕ → Bool
  longer i = eqb (get_or (l ++ (x ∷ [])) i 0) b

  all_places : times (l ++ (x ∷ [])) b ≡ count_below (suc (length l)) longer
  unfolding longer
  all_places = ap (λ (m : ℕ). count_below m longer) (snoc_length l x)

  old_places : count_below (length l) longer ≡ times l b
  unfolding longer
  old_places = count_same longer _ (length l) (λ j h. ap (λ (z : ℕ). eqb z b) (get_or-append l (x ∷ []) 0 j h))

  at_last : longer (length l) ≡ eqb x b
  unfolding longer
  at_last = ap (λ (z : ℕ). eqb z b) (snoc_last l x)

  pub times_hit : eqb x b ≡ true → times (l ++ (x ∷ [])) b ≡ suc (times l b)
  times_hit e = all_places ∙ count_hit longer (length l) (at_last ∙ e) ∙ ap suc old_places

  pub times_miss : eqb x b ≡ false → times (l ++ (x ∷ [])) b ≡ times l b
  times_miss e = all_places ∙ count_miss longer (length l) (at_last ∙ e) ∙ old_places

-- ---- counts
pub count_all : (g : ℕ → Bool) (n : ℕ) → ((j : ℕ) → j < n → g j ≡ true) → count_below n g ≡ n
count_all g zero h = count_none g 0 (λ j l. absurd (omega arith))
count_all g (suc n) h = count_hit g n (h n (omega arith)) ∙ ap suc (count_all g n (λ j l. h j (omega arith)))

count_more : (g : ℕ → Bool) (m n : ℕ) → m ≤ n → count_below m g ≤ count_below n g
count_more g m zero h = let q : m ≡ 0 = omega arith in omega (arith, ap (λ (k : ℕ). count_below k g) q)
count_more g m (suc n) h =
    by_equal m (suc n)
    (λ q. omega (arith, ap (λ (k : ℕ). count_below k g) q))
    (λ q. let r = count_more g m n (omega (arith, q)) in
    by_test (g n) (λ e. omega (arith, count_hit g n e)) (λ e. omega (arith, count_miss g n e)))

-- two numbers that pass
pub two_hits : (g : ℕ → Bool) (i j n : ℕ) → i < j → j < n → g i ≡ true → g j ≡ true → 2 ≤ count_below n g
two_hits g i j n l h p q =
    by_equal (count_below j g) 0
    (λ e. absurd (clash p (none_counted g j e i l)))
    (λ e. omega (arith, count_hit g j q, count_more g (suc j) n h, e))
