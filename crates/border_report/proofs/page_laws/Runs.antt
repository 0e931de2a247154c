-- What a run of files leaves. As long as it counts at most 4,096 meshes a page stays within 2^40, so no call is refused, and each page is the merge of the
-- page before with what the file says: sums of the counts, maxima of the misses. These do not depend on the order, and a run's page is the merge of those
-- of its parts.
use Rattle.std.specs.Prelude.{Ok, Err}
use mathlib.Core.Path.{◌≡◌, refl, sym, ap, ◌∙◌, subst}
use mathlib.Core.Bool.{Bool, true, false}
use mathlib.Core.List.{List, [], ◌∷◌, ◌++◌, append-nil}
use Prim.Native.Nat.{ℕ, zero, suc, ◌+◌, ◌*◌, ◌<◌, ◌≤◌, max}
use native.Mathlib.Omega.{arith}
use borrow.Author.Tests.{le-ltb, lt-leb}
use lib.Dec.{eqb}
use lib.ListN.{length, get_or, replicate, length-append}
use Rattle.paper.specs.Scan.{pick_n, values_from}
use Rattle.paper.specs.Mesh.{Mesh, corner_count, most_corners}
use Rattle.paper.specs.Cosines.{unit}
use Rattle.paper.specs.Faults.{Verdict, sound, fault, Accepted, stated}
use Rattle.paper.specs.Borders.{most_miss}
use Rattle.paper.specs.File.{file_verdict}
use Rattle.mesh.proofs.Links.{values_length}
use Rattle.mesh.proofs.Verdicts.{or_else_sound, single_miss, sound_right, unsound}
use Rattle.building.proofs.Laws.{few}
use Rattle.paper.specs.declared.Page.{Page}
use Rattle.paper.specs.Report.{page_with, line_numbers, lines, conditions, zero_page, border_count, largest_miss, added, most_meshes, most_on_page}
use Rattle.paper.specs.Report.{some_above, fault38, page_verdict, Offered, mesh_in, verdict_in, page_after, NextPage, answer_of, page_left, run, if_accepted, total, largest, is_under}
use Rattle.paper.specs.Report.{refused_under, page_of, Reordered, same, swapped, then, merged, merge_verdict}
use Rattle.paper.specs.Claims.{RunsPass, RunsSum, MissesWithin, OrderFree, PartsMerge}
use Rattle.pages.proofs.Lists.{value_at_lem, values_equal, values_of, page_same}
use Rattle.border_report.proofs.page_laws.Once.{largest_miss_within}

-- ---- zeros
zeros : (n i : ℕ) → ◌≡◌ {A = ℕ} (get_or (replicate n 0) i 0) 0
zeros zero i = refl
zeros (suc n) zero = refl
zeros (suc n) (suc i) = zeros n i

-- ---- a page that counts n meshes, as a run leaves it
pub record PageWithin (P : Page) (n : ℕ) : Type 0 where
  pub meshes_are : P.meshes ≡ n
  pub corners_within : P.corners ≤ most_corners * n
  pub borders_within : P.borders ≤ 2 * most_corners * n
  pub refusals_long : length P.refusals ≡ lines
  pub refusals_within : (l : ℕ) → l < lines → get_or P.refusals l 0 ≤ n
  pub misses_long : length P.misses ≡ conditions
  pub misses_within : (j : ℕ) → j < conditions → get_or P.misses j 0 ≤ most_miss * unit

within_zero : PageWithin zero_page 0
within_zero = record {
  meshes_are = refl;
  corners_within = omega arith;
  borders_within = omega arith;
  refusals_long = refl;
  refusals_within = λ l h. omega (arith, zeros lines l);
  misses_long = refl;
  misses_within = λ j h. omega (arith, zeros conditions j);
}

-- 37 and 38 do not apply to it
none_above : (l rest : List ℕ) → ((i : ℕ) → i < length l → get_or l i 0 ≤ most_on_page) → some_above rest ≡ false → some_above (l ++ rest) ≡ false
unfolding some_above
none_above [] rest h e = e
none_above (n ∷ l) rest h e =
    rw (le-ltb most_on_page n (h 0 (omega arith)), none_above l rest (λ i b. h (suc i) (omega arith)) e)

not_38 : (P : Page) (n : ℕ) → PageWithin P n → n ≤ most_meshes → fault38 P ≡ false
unfolding some_above
not_38 P n w few =
    let misses = none_above P.misses [] (λ i b. omega (arith, w.misses_within i (omega (arith, w.misses_long)))) refl in
    rw (le-ltb most_on_page P.meshes (omega (arith, w.meshes_are)), le-ltb most_on_page P.corners (omega (arith, w.corners_within)))
    (rw (le-ltb most_on_page P.borders (omega (arith, w.borders_within)))
    (none_above P.refusals P.misses (λ i b. omega (arith, w.refusals_within i (omega (arith, w.refusals_long)))) (rw append-nil at misses)))

pub page_passes : (P : Page) (n : ℕ) → PageWithin P n → n < most_meshes → page_verdict P ≡ sound
unfolding page_verdict
page_passes P n w few =
    or_else_sound _ (single_miss 37 most_meshes (lt-leb most_meshes P.meshes (omega (arith, w.meshes_are))))
    ∙ single_miss 38 0 (not_38 P n w (omega arith))

-- ---- what a file adds
accepted_in : (F : Offered) → verdict_in F ≡ sound → Accepted (mesh_in F)
unfolding file_verdict
accepted_in F e = sound_right _ _ e

under_most : (number : ℕ) (v : Verdict) → is_under number v ≤ 1
under_most number sound = omega arith
under_most number (fault k p) = picked (eqb number k)
  where
    picked : (b : Bool) → pick_n b 1 0 ≤ 1
    picked true = omega arith
    picked false = omega arith

within_added : (P : Page) (n : ℕ) (M : Mesh) (v : Verdict) → (v ≡ sound → Accepted M) → PageWithin P n → PageWithin (added P M v) (n + 1)
unfolding added
within_added P n M sound ok w =
    let a = ok refl in
    record {
      meshes_are = ap (λ (k : ℕ). k + 1) w.meshes_are;
      corners_within = omega (arith, w.corners_within, few M a);
      borders_within = omega (arith, w.borders_within, few M a);
      refusals_long = w.refusals_long;
      refusals_within = λ l h. omega (arith, w.refusals_within l h);
      misses_long = values_length _ 0 conditions;
      misses_within = λ j h. simp value_at_lem (omega (arith, w.misses_within j h, largest_miss_within M a j h));
    }
within_added P n M (fault k p) ok w =
    record {
      meshes_are = ap (λ (k : ℕ). k + 1) w.meshes_are;
      corners_within = omega (arith, w.corners_within);
      borders_within = omega (arith, w.borders_within);
      refusals_long = values_length _ 0 lines;
      refusals_within = λ l h. simp value_at_lem (omega (arith, w.refusals_within l h, under_most (get_or line_numbers l 0) (fault k p)));
      misses_long = w.misses_long;
      misses_within = w.misses_within;
    }

-- the next page, merged with what later files say, is the page merged with what this file and the later ones say
module _ (P : Page) (M : Mesh) (n c b : ℕ) (r m : ℕ → ℕ) where
  abbrev later : Page
  later = page_with n c b (values_from r 0 lines) (values_from m 0 conditions)

  abbrev refusals_with : Verdict → ℕ → ℕ
  refusals_with v l = is_under (get_or line_numbers l 0) v + r l

  abbrev misses_with : Verdict → ℕ → ℕ
  misses_with v j = max (if_accepted v (largest_miss M j)) (m j)

  abbrev with_file : Verdict → Page
  with_file v =
      page_with (suc n) (if_accepted v (corner_count M) + c) (if_accepted v (border_count M) + b) (values_from (refusals_with v) 0 lines)
      (values_from (misses_with v) 0 conditions)

  added_merged : (v : Verdict) → merged (added P M v) later ≡ merged P (with_file v)
  unfolding merged added
  added_merged sound =
      page_same _ _ _ _ _ _ _ _ _ _ (omega arith) (omega arith) (omega arith)
      (values_equal _ _ lines (λ l h. simp value_at_lem (omega arith))) (values_equal _ _ conditions (λ j h. simp value_at_lem (omega arith)))
  added_merged (fault k p) =
      page_same _ _ _ _ _ _ _ _ _ _ (omega arith) (omega arith) (omega arith)
      (values_equal _ _ lines (λ l h. simp value_at_lem (omega arith))) (values_equal _ _ conditions (λ j h. simp value_at_lem (omega arith)))

merged_none : (P : Page) (n : ℕ) → PageWithin P n → P ≡ merged P (page_of [])
unfolding merged page_of
merged_none P n w =
    page_same _ _ _ _ _ _ _ _ _ _ (omega arith) (omega arith) (omega arith)
    (sym (values_of _ P.refusals lines w.refusals_long (λ l h. simp value_at_lem (omega arith))))
    (sym (values_of _ P.misses conditions w.misses_long (λ j h. simp value_at_lem (omega arith))))

-- ---- a run
pub after_file : (P : Page) (n : ℕ) (F : Offered) → PageWithin P n → n < most_meshes → page_after P F ≡ added P (mesh_in F) (verdict_in F)
unfolding page_after
after_file P n F w few = rw (page_passes P n w few)

-- the page after one file, of which n were counted before
next_within : (P : Page) (n : ℕ) (F : Offered) → PageWithin P n → n < most_meshes → PageWithin (page_after P F) (n + 1)
next_within P n F w few =
    rw (after_file P n F w few) (within_added P n (mesh_in F) (verdict_in F) (accepted_in F) w)

pub run_within : (files : List Offered) (P : Page) (n : ℕ) → PageWithin P n → n + length files ≤ most_meshes → PageWithin (run P files) (n + length files)
run_within [] P n w h = subst (PageWithin P) (let e : n ≡ n + 0 = omega arith in e) w
run_within (F ∷ files) P n w h =
    subst (PageWithin (run (page_after P F) files)) (let e : n + 1 + length files ≡ n + suc (length files) = omega arith in e)
    (run_within files (page_after P F) (n + 1) (next_within P n F w (omega arith)) (omega arith))

run_from : (files : List Offered) (P : Page) (n : ℕ) → PageWithin P n → n + length files ≤ most_meshes → run P files ≡ merged P (page_of files)
unfolding page_of
run_from [] P n w h = merged_none P n w
run_from (F ∷ files) P n w h =
    run_from files (page_after P F) (n + 1) (next_within P n F w (omega arith)) (omega arith)
    ∙ ap (λ (Q : Page). merged Q (page_of files)) (after_file P n F w (omega arith))
    ∙ added_merged P (mesh_in F) (length files) (total corner_count files) (total border_count files) (λ l. refused_under (get_or line_numbers l 0) files)
    (λ j. largest (λ M. largest_miss M j) files) (verdict_in F)

zero_merged : (files : List Offered) → merged zero_page (page_of files) ≡ page_of files
unfolding merged page_of
zero_merged files =
    page_same _ _ _ _ _ _ _ _ _ _ (omega arith) (omega arith) (omega arith)
    (values_of _ _ lines (values_length _ 0 lines) (λ l h. omega (arith, zeros lines l)))
    (values_of _ _ conditions (values_length _ 0 conditions) (λ j h. omega (arith, zeros conditions j)))

pub runs_sum : RunsSum
runs_sum files few = run_from files zero_page 0 within_zero (omega arith) ∙ zero_merged files

pub zero_within : (files : List Offered) → length files ≤ most_meshes → PageWithin (run zero_page files) (0 + length files)
zero_within files few = run_within files zero_page 0 within_zero (omega arith)

pub runs_pass : RunsPass
runs_pass files few = page_passes (run zero_page files) (0 + length files) (zero_within files (omega arith)) (omega arith)

pub misses_within : MissesWithin
misses_within files few j h = (zero_within files few).misses_within j h

-- ---- two parts of a run
total_append : (f : Mesh → ℕ) (files more : List Offered) → total f (files ++ more) ≡ total f files + total f more
total_append f [] more = omega arith
total_append f (F ∷ files) more = omega (arith, total_append f files more)

largest_append : (f : Mesh → ℕ) (files more : List Offered) → largest f (files ++ more) ≡ max (largest f files) (largest f more)
largest_append f [] more = omega arith
largest_append f (F ∷ files) more = omega (arith, largest_append f files more)

refused_append : (number : ℕ) (files more : List Offered)
    → refused_under number (files ++ more) ≡ refused_under number files + refused_under number more
refused_append number [] more = omega arith
refused_append number (F ∷ files) more = omega (arith, refused_append number files more)

parts : (files more : List Offered) → page_of (files ++ more) ≡ merged (page_of files) (page_of more)
unfolding merged page_of
parts files more =
    page_same _ _ _ _ _ _ _ _ _ _ (length-append files more) (total_append corner_count files more) (total_append border_count files more)
    (values_equal _ _ lines (λ l h. simp value_at_lem (refused_append (get_or line_numbers l 0) files more)))
    (values_equal _ _ conditions (λ j h. simp value_at_lem (largest_append (λ M. largest_miss M j) files more)))

answered : (r : NextPage) (N : Page) → stated (answer_of r) ≡ sound → page_left r ≡ N → r ≡ Ok N
answered (Ok x) N e h = ap Ok h
answered (Err q) N e h = unsound q.refusal.number q.refusal.place e

merge_passes : (P Q : Page) (n m : ℕ) → PageWithin P n → PageWithin Q m → n + m ≤ most_meshes → merge_verdict P Q ≡ sound
unfolding merge_verdict
merge_passes P Q n m v w few =
    or_else_sound _ (single_miss 37 most_meshes (le-ltb most_meshes (P.meshes + Q.meshes) (omega (arith, v.meshes_are, w.meshes_are))))
    ∙ single_miss 38 0 (rw (not_38 P n v (omega arith), not_38 Q m w (omega arith)))

pub parts_merge : PartsMerge
parts_merge files more r few c =
    let P = run zero_page files in
    let Q = run zero_page more in
    let v = merge_passes P Q _ _ (zero_within files (omega arith)) (zero_within more (omega arith)) (omega arith) in
    let whole = runs_sum (files ++ more) (omega (arith, length-append files more)) in
    answered r _ (c.answers ∙ v) (rw v at c.holds) ∙ ap Ok (rw (runs_sum files (omega arith), runs_sum more (omega arith), whole) (sym (parts files more)))

-- ---- the order of the files
exchanged : (F G : Offered) (files : List Offered) → page_of (F ∷ G ∷ files) ≡ page_of (G ∷ F ∷ files)
unfolding page_of
exchanged F G files =
    page_same _ _ _ _ _ _ _ _ _ _ refl (omega arith) (omega arith) (values_equal _ _ lines (λ l h. omega arith))
    (values_equal _ _ conditions (λ j h. omega arith))

reordered : {files others : List Offered} → Reordered files others → (length files ≡ length others) × (page_of files ≡ page_of others)
reordered (same l) = (refl, refl)
reordered (swapped before F G after) = (
  rw (length-append before (F ∷ G ∷ after), length-append before (G ∷ F ∷ after)),
  parts before (F ∷ G ∷ after) ∙ ap (merged (page_of before)) (exchanged F G after) ∙ sym (parts before (G ∷ F ∷ after)),
)
reordered (then a b) =
    let p = reordered a in
    let q = reordered b in
    (p.0 ∙ q.0, p.1 ∙ q.1)

pub order_free : OrderFree
order_free files others h few =
    let e = reordered h in
    runs_sum files few ∙ e.1 ∙ sym (runs_sum others (omega (arith, e.0)))
