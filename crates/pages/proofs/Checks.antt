-- Checks 37 and 38, number by number: what each way out of the checks answers, and what is known of the pages that pass.
use mathlib.Core.Path.{◌≡◌, refl, sym, ap, ◌∙◌}
use mathlib.Core.Bool.{Bool, true, false, ◌||◌}
use mathlib.Core.List.{List, [], ◌∷◌, ◌++◌}
use Prim.Native.Nat.{ℕ, zero, suc, ◌+◌, ◌≤◌, ◌<◌}
use native.Mathlib.Omega.{arith}
use borrow.Author.Tests.{lt-ltb, le-ltb, le-leb, lt-leb, ltb-false, leb-false}
use lib.Dec.{ltb}
use lib.ListN.{get_or}
use Rattle.std.specs.List.{list_any}
use Rattle.paper.specs.Faults.{sound, fault, ◌or_else◌, single}
use Rattle.paper.specs.Report.{most_meshes, most_on_page, some_above, fault38, page_verdict, merged, merge_verdict, MergedTo}
use Rattle.paper.specs.declared.Page.{Page}
use Rattle.paper.specs.declared.Refusal.{Refusal}
use Rattle.std.specs.Prelude.{Ok, Err}
use Rattle.mesh.proofs.Verdicts.{sound_left, sound_right, single_sound}

-- ---- either of two tests
or_assoc : (a b c : Bool) → a || (b || c) ≡ (a || b) || c
or_assoc true b c = refl
or_assoc false b c = refl

or_left : (a b : Bool) → a || b ≡ false → a ≡ false
or_left true b e = e
or_left false b e = refl

or_right : (a b : Bool) → a || b ≡ false → b ≡ false
or_right true true e = e
or_right true false e = refl
or_right false b e = e

-- ---- a list with a number above 2^40
append_some : (a b : List ℕ) → some_above (a ++ b) ≡ some_above a || some_above b
unfolding some_above
append_some [] b = refl
append_some (n ∷ a) b = ap (λ (t : Bool). ltb most_on_page n || t) (append_some a b) ∙ or_assoc (ltb most_on_page n) (some_above a) (some_above b)

pub any_above : (l : List ℕ) → list_any (λ n. ltb most_on_page n) l ≡ some_above l
unfolding some_above
any_above [] = refl
any_above (n ∷ l) = ap (λ (t : Bool). ltb most_on_page n || t) (any_above l)

none_of : (l : List ℕ) → some_above l ≡ false → (i : ℕ) → get_or l i 0 ≤ most_on_page
unfolding some_above
none_of [] e i = omega arith
none_of (n ∷ l) e zero = ltb-false most_on_page n (or_left _ _ e)
none_of (n ∷ l) e (suc i) = none_of l (or_right (ltb most_on_page n) _ e) i

-- ---- a page with one: among its counts, its refusals or its misses
module _ (P : Page) where
  counts : Bool
  counts = some_above (P.meshes ∷ P.corners ∷ P.borders ∷ [])

  lists : fault38 P ≡ counts || (some_above P.refusals || some_above P.misses)
  unfolding counts
  lists =
      append_some (P.meshes ∷ P.corners ∷ P.borders ∷ []) (P.refusals ++ P.misses)
      ∙ ap (λ (t : Bool). some_above (P.meshes ∷ P.corners ∷ P.borders ∷ []) || t) (append_some P.refusals P.misses)

  pub above_counts : some_above (P.meshes ∷ P.corners ∷ P.borders ∷ []) ≡ true → true ≡ fault38 P
  unfolding counts
  above_counts e = sym (lists ∙ rw e)

  module _ (n : some_above (P.meshes ∷ P.corners ∷ P.borders ∷ []) ≡ false) where
    pub above_refusals : some_above P.refusals ≡ true → true ≡ fault38 P
    unfolding counts
    above_refusals e = sym (lists ∙ rw (n, e))

    pub above_misses : some_above P.refusals ≡ false → some_above P.misses ≡ fault38 P
    unfolding counts
    above_misses e = sym (lists ∙ rw (n, e))

-- ---- the two checks of a page
module _ (P : Page) where
  pub many : most_meshes ≤ P.meshes → fault 37 most_meshes ≡ page_verdict P
  unfolding page_verdict single ◌or_else◌
  many h = rw (le-leb most_meshes P.meshes h)

  module _ (h : P.meshes < most_meshes) where
    pub large : true ≡ fault38 P → fault 38 0 ≡ page_verdict P
    unfolding page_verdict single ◌or_else◌
    large e = rw (lt-leb most_meshes P.meshes h, ← e)

    pub passes : false ≡ fault38 P → sound ≡ page_verdict P
    unfolding page_verdict single ◌or_else◌
    passes e = rw (lt-leb most_meshes P.meshes h, ← e)

-- ---- and of two
module _ (P Q : Page) where
  pub many_both : most_meshes < P.meshes + Q.meshes → fault 37 most_meshes ≡ merge_verdict P Q
  unfolding merge_verdict single ◌or_else◌
  many_both h = rw (lt-ltb most_meshes (P.meshes + Q.meshes) h)

  module _ (h : P.meshes + Q.meshes ≤ most_meshes) where
    pub large_first : true ≡ fault38 P → fault 38 0 ≡ merge_verdict P Q
    unfolding merge_verdict single ◌or_else◌
    large_first e = rw (le-ltb most_meshes (P.meshes + Q.meshes) h, ← e)

    pub large_second : false ≡ fault38 P → true ≡ fault38 Q → fault 38 0 ≡ merge_verdict P Q
    unfolding merge_verdict single ◌or_else◌
    large_second e f = rw (le-ltb most_meshes (P.meshes + Q.meshes) h, ← e, ← f)

    pub both_pass : false ≡ fault38 P → false ≡ fault38 Q → sound ≡ merge_verdict P Q
    unfolding merge_verdict single ◌or_else◌
    both_pass e f = rw (le-ltb most_meshes (P.meshes + Q.meshes) h, ← e, ← f)

-- ---- a page that passes
pub record SmallPage (P : Page) : Type 0 where
  pub corners_small : P.corners ≤ most_on_page
  pub borders_small : P.borders ≤ most_on_page
  pub refusals_small : (l : ℕ) → get_or P.refusals l 0 ≤ most_on_page

small_of : (P : Page) → fault38 P ≡ false → SmallPage P
unfolding some_above
small_of P e =
    let later = or_right (ltb most_on_page P.meshes) _ e in
    let last = or_right (ltb most_on_page P.corners) _ later in
    let rest = or_right (ltb most_on_page P.borders) _ last in
    record {
      corners_small = ltb-false most_on_page P.corners (or_left _ _ later);
      borders_small = ltb-false most_on_page P.borders (or_left _ _ last);
      refusals_small = none_of P.refusals (or_left _ _ (sym (append_some P.refusals P.misses) ∙ rest));
    }

pub page_small : (P : Page) → page_verdict P ≡ sound → (P.meshes < most_meshes) × SmallPage P
unfolding page_verdict
page_small P e =
    (leb-false most_meshes P.meshes (single_sound 37 _ _ (sound_left _ _ e)), small_of P (single_sound 38 _ _ (sound_right _ _ e)))

pub both_small : (P Q : Page) → merge_verdict P Q ≡ sound → (P.meshes + Q.meshes ≤ most_meshes) × SmallPage P × SmallPage Q
unfolding merge_verdict
both_small P Q e =
    let last = single_sound 38 _ _ (sound_right _ _ e) in (
      ltb-false most_meshes (P.meshes + Q.meshes) (single_sound 37 _ _ (sound_left _ _ e)),
      small_of P (or_left _ _ last),
      small_of Q (or_right (fault38 P) (fault38 Q) last),
    )

-- ---- what a call of merging leaves
pub refused_merge : (P Q : Page) (r : Refusal) → fault r.number r.place ≡ merge_verdict P Q → MergedTo P Q (Err (record { refusal = r; page = P }))
refused_merge P Q r e = record { answers = e; holds = rw (← e) }

pub done_merge : (P Q N : Page) → merge_verdict P Q ≡ sound → N ≡ merged P Q → MergedTo P Q (Ok N)
done_merge P Q N e n = record { answers = sym e; holds = rw e n }
