-- L4's theorems: a table is accepted exactly when every chain ends at the Sun, and each body is tested for its own chain; the listing of an accepted table holds each body once,
-- after the one it hangs in, with none lower possible, and is the only such list.
use mathlib.Core.Path.{◌≡◌, refl, sym, ap, ◌∙◌, subst}
use mathlib.Core.Bool.{Bool, true, false, not}
use mathlib.Core.List.{List, [], ◌∷◌, ◌++◌}
use Prim.Native.Nat.{ℕ, zero, suc, ◌<◌, ◌≤◌}
use native.Mathlib.Nat.{min-le_left}
use native.Mathlib.Omega.{arith}
use lib.Dec.{eqb}
use lib.ListN.{length, get_or, take, length-take}
use lib.Seq.{get_or-take, take_all, take-suc}
use borrow.Author.Tests.{eq-eqb, not-false}
use Rattle.paper.specs.Scan.{pick_n}
use Rattle.paper.specs.Faults.{sound}
use Rattle.paper.specs.Nesting.{most_bodies, sun, holder, ends_at_sun, fault21, fault22, fault23, table_verdict, nesting_verdict, listed, may_follow}
use Rattle.paper.specs.Nesting.{next_body, places, listing, ReachesSun, Ordered}
use Rattle.paper.specs.Claims.{ChainsDecide, EachChain, ListingOrdered, OneListing}
use Rattle.mesh.proofs.Scans.{clash}
use Rattle.mesh.proofs.ByCases.{by_equal, by_order, false_of}
use Rattle.mesh.proofs.Ranges.{none_left, or_left, or_right, at_most}
use Rattle.mesh.proofs.Verdicts.{sound_left, sound_right, single_sound, lowest_sound, or_else_sound, lowest_none}
use Rattle.nesting.proofs.Lists.{place_of_lem, two_hits}
use Rattle.nesting.proofs.Places.{may, may_holder, next_may, lower, places_zero, places_suc, length_places, prefix, entry, Occupied, once_each}
use Rattle.nesting.proofs.Places.{some_step, listed_ends, all_listed, ends_soon, runs}

-- ---- what the checks give
pub few_of : (B : List ℕ) (m : ℕ) → fault21 (length B) m ≡ false → length B ≤ most_bodies
unfolding fault21
few_of B m e = at_most 1 most_bodies (length B) (none_left _ _ e)

module _ (B : List ℕ) (m : ℕ) (e : table_verdict B m ≡ sound) where
  few : length B ≤ most_bodies
  unfolding table_verdict
  few = few_of B m (single_sound 21 _ 0 (sound_left _ _ e))

  held : (b : ℕ) → b < length B → fault22 B b ≡ false
  unfolding table_verdict
  held = lowest_sound 22 (length B) (fault22 B) (sound_right _ _ e)

module _ (B : List ℕ) (m : ℕ) (e : nesting_verdict B m ≡ sound) where
  passes : table_verdict B m ≡ sound
  unfolding nesting_verdict
  passes = sound_left (table_verdict B m) _ e

  ends : (b : ℕ) → b < length B → ReachesSun B b
  unfolding nesting_verdict fault23
  ends b h =
      some_step B b (not-false (ends_at_sun B b) (lowest_sound 23 (length B) (λ c. not (ends_at_sun B c)) (sound_right (table_verdict B m) _ e) b h))

  full : Occupied B (length B)
  full = runs B (few B m passes) (held B m passes) ends (length B) (omega arith)

-- ---- all places have bodies
module _ (B : List ℕ) (run : Occupied B (length B)) where
  ordered : Ordered B (places B (length B))
  ordered =
      record {
        whole = length_places B (length B);
        once = λ b h. once_each B (length B) run (length B) b (omega arith) ∙ ap (λ (z : Bool). pick_n z 1 0) (all_listed B (length B) run refl b h);
        later = λ i h d. let l : i < length B = omega (arith, length_places B (length B)) in
            let e = entry B (length B) i l in
            ap (λ (z : List ℕ). listed z (holder B (get_or (places B (length B)) i 0))) (prefix B (length B) i (omega arith))
            ∙ ap (λ (z : ℕ). listed (places B i) (holder B z)) e
            ∙ may_holder B (places B i) (next_body B (places B i)) (next_may B (places B i) (run i l)) (λ q. d (ap (holder B) e ∙ q));
        lowest = λ i h b u. let l : i < length B = omega (arith, length_places B (length B)) in
            ap (λ (z : List ℕ). may_follow B z b) (prefix B (length B) i (omega arith))
            ∙ lower B (places B i) b (omega (arith, entry B (length B) i l));
      }

  -- ---- no other list is so ordered
  module _ (out : List ℕ) (o : Ordered B out) where
    -- the body at place i does not stand before it
    apart : (i : ℕ) → i < length out → get_or out i 0 < length B → listed (take i out) (get_or out i 0) ≡ false
    apart i h l =
        let b = get_or out i 0 in
        false_of _ (λ e.
        let p = place_of_lem (take i out) b e in
        let j : p.0 < i = omega (arith, p.1, length-take i out, min-le_left i (length out)) in
        let q : get_or out p.0 0 ≡ b = sym (get_or-take i out p.0 0 j) ∙ p.2 in
        omega (arith, two_hits (λ j. eqb (get_or out j 0) b) p.0 i (length out) j h (eq-eqb _ b q) (eq-eqb b b refl), o.once b l))

    follows : (i : ℕ) → i < length out → get_or out i 0 < length B → may_follow B (take i out) (get_or out i 0) ≡ true
    follows i h l =
        let b = get_or out i 0 in
        may B (take i out) b (apart i h l)
        (by_equal (holder B b) sun
        (λ q. or_left (eqb (holder B b) sun) (listed (take i out) (holder B b)) (eq-eqb _ _ q))
        (λ q. or_right (eqb (holder B b) sun) (listed (take i out) (holder B b)) (o.later i h q)))

    same_place : (i : ℕ) → i < length B → take i out ≡ places B i → get_or out i 0 ≡ next_body B (places B i)
    same_place i h e =
        let b = get_or out i 0 in
        let x = next_body B (places B i) in
        let k : i < length out = omega (arith, o.whole) in
        let l : x < length B = run i h in
        by_order b x (λ q. q)
        (λ q. absurd (clash (follows i k (omega arith)) (ap (λ (z : List ℕ). may_follow B z b) e ∙ lower B (places B i) b q)))
        (λ q. absurd (clash (next_may B (places B i) l) (sym (ap (λ (z : List ℕ). may_follow B z x) e) ∙ o.lowest i k x q)))

    same_prefix : (i : ℕ) → i ≤ length B → take i out ≡ places B i
    same_prefix zero h = sym (places_zero B)
    same_prefix (suc i) h =
        let e = same_prefix i (omega arith) in
        take-suc out i 0 (omega (arith, o.whole))
        ∙ ap (λ (z : List ℕ). z ++ (get_or out i 0 ∷ [])) e
        ∙ ap (λ (x : ℕ). places B i ++ (x ∷ [])) (same_place i h e) ∙ sym (places_suc B i)

    no_other : out ≡ places B (length B)
    no_other = sym (take_all (length B) out (omega (arith, o.whole))) ∙ same_prefix (length B) (omega arith)

-- ---- the theorems
pub chains_decide : ChainsDecide
unfolding nesting_verdict fault23
chains_decide B m t = (
  (λ e. ends B m e),
  (λ reach.
      let run = runs B (few B m t) (held B m t) reach (length B) (omega arith) in
      or_else_sound _ t
      ∙ lowest_none 23 (length B) (λ b. not (ends_at_sun B b))
      (λ b h. ap not (listed_ends B (length B) run b (all_listed B (length B) run refl b h)))),
)

pub each_chain : EachChain
each_chain B m t b h = (some_step B b, ends_soon B (few B m t) (held B m t) b h)

pub listing_ordered : ListingOrdered
unfolding listing
listing_ordered B old out call = subst (Ordered B) (sym call.holds) (ordered B (full B (length old) (sym call.answers)))

pub one_listing : OneListing
unfolding listing
one_listing B old out other call o = no_other B (full B (length old) (sym call.answers)) other o ∙ sym call.holds
