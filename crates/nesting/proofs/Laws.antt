-- What each test of the code says of the table, what the marks tell, and the turns of the loop that lists.
use mathlib.Core.Path.{◌≡◌, refl, sym, ap, ◌∙◌, subst}
use mathlib.Core.Bool.{Bool, true, false, not, ◌&&◌}
use mathlib.Core.List.{List, [], ◌∷◌, ◌++◌}
use Prim.Native.Nat.{ℕ, zero, suc, ◌+◌, ◌<◌, ◌≤◌}
use native.Mathlib.Numerals.{add-one}
use native.Mathlib.Omega.{arith}
use lib.Dec.{leb}
use lib.ListN.{length, get_or, set, take, replicate, length-replicate, get_or-eq_default}
use lib.Seq.{take-suc-set, get_or-set_same, get_or-set_other}
use borrow.Author.Tests.{eqb-true, eq-eqb, ne_eqb, le-leb, lt-leb, not-false}
use Rattle.std.specs.Prelude.{Err}
use Rattle.paper.specs.declared.Refusal.{Refusal}
use Rattle.paper.specs.Faults.{Verdict, sound, fault, ◌or_else◌, single, lowest_of, outside, Answer, done}
use Rattle.paper.specs.Nesting.{most_bodies, sun, holder, ends_at_sun, fault21, fault22, fault23, listed, may_follow, next_body, places, listing}
use Rattle.paper.specs.Nesting.{table_verdict, nesting_verdict, Nested}
use Rattle.mesh.proofs.Scans.{and_true}
use Rattle.mesh.proofs.ByCases.{by_equal}
use Rattle.mesh.proofs.Ranges.{or_left, or_right, or_none, none_right}
use Rattle.mesh.proofs.Verdicts.{single_sound, lowest_sound, or_else_assoc, past}
use Rattle.nesting.specs.Marks.{Marks, ChainMarks, Arrangeable, Arranged, ListedIn}
use Rattle.nesting.proofs.Lists.{none_listed, snoc_same, snoc_other}
use Rattle.nesting.proofs.Places.{places_zero, places_suc, Occupied, run_step, all_filled, decided}
use Rattle.nesting.proofs.Theorems.{few_of}

-- ---- 21
module _ (bodies room : ℕ) where
  pub bodies_out : outside 1 most_bodies bodies ≡ true → fault21 bodies room ≡ true
  unfolding fault21
  bodies_out e = or_left _ _ e

  pub room_differs : (room ≡ bodies → ⊥) → fault21 bodies room ≡ true
  unfolding fault21
  room_differs d = or_right (outside 1 most_bodies bodies) _ (ap not (ne_eqb room bodies d))

  pub lengths_fit : outside 1 most_bodies bodies ≡ false → room ≡ bodies → fault21 bodies room ≡ false
  unfolding fault21
  lengths_fit e q = or_none _ _ e (ap not (eq-eqb room bodies q))

-- ---- 22
-- an entry of a list, whatever stands past its end
pub any_default : (l : List ℕ) (i d e : ℕ) → i < length l → get_or l i d ≡ get_or l i e
any_default [] i d e h = absurd (omega arith)
any_default (x ∷ l) zero d e h = refl
any_default (x ∷ l) (suc i) d e h = any_default l i d e (omega arith)

module _ (B : List ℕ) (b : ℕ) (l : b < length B) where
  pub holder_is : get_or B b 0 ≡ holder B b
  holder_is = any_default B b 0 sun l

  pub no_holder : length B ≤ get_or B b 0 → (get_or B b 0 ≡ sun → ⊥) → fault22 B b ≡ true
  unfolding fault22
  no_holder h d =
      and_true (leb (length B) (holder B b)) _ (le-leb (length B) (holder B b) (omega (arith, holder_is)))
      (ap not (ne_eqb (holder B b) sun (λ q. d (holder_is ∙ q))))

  pub a_body : get_or B b 0 < length B → fault22 B b ≡ false
  unfolding fault22
  a_body h = rw (lt-leb (length B) (holder B b) (omega (arith, holder_is)))

  pub the_sun : get_or B b 0 ≡ sun → fault22 B b ≡ false
  unfolding fault22
  the_sun q = and_false (leb (length B) (holder B b)) (ap not (eq-eqb (holder B b) sun (sym holder_is ∙ q)))
    where
      and_false : (a : Bool) {b : Bool} → b ≡ false → a && b ≡ false
      and_false true e = e
      and_false false e = refl

-- 23
module _ (B : List ℕ) (marks : List Bool) (m : ChainMarks B marks) (b : ℕ) (l : b < length B) where
  pub no_end : get_or marks b false ≡ false → fault23 B b ≡ true
  unfolding fault23 ChainMarks
  no_end z = ap not (sym (m b l) ∙ z)

  pub an_end : get_or marks b false ≡ true → fault23 B b ≡ false
  unfolding fault23 ChainMarks
  an_end z = ap not (sym (m b l) ∙ z)

-- what may follow, by the marks; h is what b hangs in
module _ (B list : List ℕ) (marks : List Bool) (m : Marks list marks) (b : ℕ) {h : ℕ} (e : holder B b ≡ h) where
  listed_is : (x : ℕ) → get_or marks x false ≡ listed list x
  unfolding Marks
  listed_is x = m x

  pub not_again : get_or marks b false ≡ true → false ≡ may_follow B list b
  unfolding may_follow
  not_again d = rw (sym (listed_is b) ∙ d)

  module _ (z : get_or marks b false ≡ false) where
    pub under_sun : h ≡ sun → true ≡ may_follow B list b
    unfolding may_follow
    under_sun s = rw (sym (listed_is b) ∙ z, eq-eqb (holder B b) sun (e ∙ s))

    pub under_body : (h ≡ sun → ⊥) → get_or marks h false ≡ may_follow B list b
    unfolding may_follow
    under_body d = rw (sym (listed_is b) ∙ z, ne_eqb (holder B b) sun (λ q. d (sym e ∙ q)), e) (listed_is h)

    pub under_none : (h ≡ sun → ⊥) → length marks ≤ h → false ≡ may_follow B list b
    under_none d o = sym (get_or-eq_default marks false o) ∙ under_body d

-- ---- listing: k bodies are listed and marked
pub record Filling (B : List ℕ) (marks : List Bool) (order : List ℕ) (k : ℕ) : Type 0 where
  pub run : Occupied B k
  pub marks_are : Marks (places B k) marks
  pub order_is : take k order ≡ places B k

pub filling_none : (B : List ℕ) (marks : List Bool) (order : List ℕ) → ((b : ℕ) → get_or marks b false ≡ false) → Filling B marks order 0
unfolding Marks
filling_none B marks order z =
    record {
      run = λ i l. absurd (omega arith);
      marks_are = λ b. z b ∙ sym (ap (λ (l : List ℕ). listed l b) (places_zero B) ∙ none_listed b);
      order_is = sym (places_zero B);
    }

module _ {B : List ℕ} {marks : List Bool} {order : List ℕ} {k : ℕ} (f : Filling B marks order k) where
  -- body b comes next
  module _ {b : ℕ} (e : b ≡ next_body B (places B k)) (h : b < length B) (i : b < length marks) (j : k < length order) where
    longer : places B (k + 1) ≡ places B k ++ (b ∷ [])
    longer = rw add-one (places_suc B k ∙ ap (λ (x : ℕ). places B k ++ (x ∷ [])) (sym e))

    mark_step : Marks (places B k ++ (b ∷ [])) (set marks b true)
    unfolding Marks
    mark_step c =
        by_equal c b
        (λ q. rw q (get_or-set_same marks b true false i ∙ sym (snoc_same (places B k) b)))
        (λ q. get_or-set_other marks b c true false q ∙ f.marks_are c ∙ sym (snoc_other (places B k) b c q))

    pub filling_step : Filling B (set marks b true) (set order k b) (k + 1)
    filling_step =
        record {
          run = rw add-one (run_step B k f.run (omega arith));
          marks_are = rw longer mark_step;
          order_is = rw (longer, add-one) (take-suc-set order k b j ∙ ap (λ (l : List ℕ). l ++ (b ∷ [])) f.order_is);
        }

  -- none comes next
  pub filled : (few : length B ≤ most_bodies) → ((b : ℕ) → b < length B → fault22 B b ≡ false)
      → (k < length B → length B ≤ next_body B (places B k)) → Arranged B marks order
  unfolding listing Marks ChainMarks
  filled few held stop =
      let d = decided B few held k f.run stop in
      record {
        marked = λ b h. f.marks_are b ∙ d b h;
        lists = λ ends. let q : k ≡ length B = all_filled B k f.run (λ b h. d b h ∙ ends b h) in
            subst (λ (n : ℕ). take n order ≡ places B n) q f.order_is;
      }

-- ---- check 23 and the listing, way by way
pub list_done : {B old : List ℕ} {marks : List Bool} {order out : List ℕ} → lowest_of 23 (length B) (fault23 B) ≡ sound → length old ≡ length B → Arranged B marks order
    → out ≡ take (length old) order → ListedIn B old done out
unfolding fault23
list_done {B} {order = order} c q g e =
    record {
      answers = sym c;
      holds = e ∙ ap (λ (n : ℕ). take n order) q
          ∙ g.lists (λ b h. not-false (ends_at_sun B b) (lowest_sound 23 (length B) (λ d. not (ends_at_sun B d)) c b h));
    }

-- ---- the call, way by way
unmarked : (n b : ℕ) → get_or (replicate n false) b false ≡ false
unmarked zero b = refl
unmarked (suc n) zero = refl
unmarked (suc n) (suc b) = unmarked n b

module _ (B old : List ℕ) where
  abbrev v21 : Verdict
  v21 = single 21 (fault21 (length B) (length old)) 0

  abbrev v22 : Verdict
  v22 = lowest_of 22 (length B) (fault22 B)

  abbrev v23 : Verdict
  v23 = lowest_of 23 (length B) (fault23 B)

  in_order : nesting_verdict B (length old) ≡ v21 or_else v22 or_else v23
  unfolding nesting_verdict table_verdict
  in_order = or_else_assoc v21 v22 v23

  pub nest_refused : (x : Refusal) → fault x.number x.place ≡ v21 or_else v22 or_else v23 → Nested B old (Err x) old
  nest_refused x e = record { answers = e ∙ sym in_order; holds = refl }

  module _ (a : v21 ≡ sound) where
    pub same_room : length old ≡ length B
    unfolding fault21
    same_room = eqb-true _ _ (not-false _ (none_right (outside 1 most_bodies (length B)) _ (single_sound 21 _ 0 a)))

    few_bodies : length B ≤ most_bodies
    few_bodies = few_of B (length old) (single_sound 21 _ 0 a)

    module _ (b : v22 ≡ sound) where
      pub arrangeable : Arrangeable B (replicate most_bodies false) (replicate most_bodies 0)
      arrangeable =
          record {
            few = few_bodies;
            held = lowest_sound 22 (length B) (fault22 B) b;
            marks_room = omega (arith, few_bodies, length-replicate {A = Bool} most_bodies false);
            order_room = omega (arith, few_bodies, length-replicate {A = ℕ} most_bodies 0);
            blank = unmarked most_bodies;
          }

      pub nest_listed : {r : Answer} {out : List ℕ} → ListedIn B old r out → Nested B old r out
      nest_listed l = record { answers = past a _ (past b _ l.answers) ∙ sym in_order; holds = l.holds }
