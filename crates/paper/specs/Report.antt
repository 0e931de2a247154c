-- L14, the yearly border report: a page, the next page of a page and a file, what a run of files leaves, and two pages as one.
use Rattle.std.specs.Prelude.{◌≡◌, Bool, true, false, not, ◌||◌, List, [], ◌∷◌, ◌++◌, ℕ, zero, suc, ◌+◌, ◌*◌, ◌^◌, ◌<◌, max, ltb, leb, eqb, length, get_or, replicate, set, ℤ, nat_abs, Result, Ok, Err}
use Rattle.paper.specs.Scan.{pick_n, values_from}
use Rattle.paper.specs.Mesh.{Mesh, corner_count}
use Rattle.paper.specs.Faults.{Verdict, sound, fault, ◌or_else◌, single, stated, kept, Told}
use Rattle.paper.specs.Net.{Side, side0, side1, side2, side3, across}
use Rattle.paper.specs.File.{file_of, file_mesh, file_verdict}
use Rattle.paper.specs.Borders.{output_of, beside, miss, first, second, third, fourth}
use Rattle.paper.specs.declared.Page.{Page}
use Rattle.paper.specs.declared.RefusedPage.{RefusedPage}

-- ---- the page: meshes offered, corners built, borders met, refusals under each of 1 to 13 and 28, and for each of the four conditions the largest
-- miss; 21 numbers
abbrev pub page_with : ℕ → ℕ → ℕ → List ℕ → List ℕ → Page
page_with meshes corners borders refusals misses = record {
  meshes = meshes;
  corners = corners;
  borders = borders;
  refusals = refusals;
  misses = misses;
}

-- the numbers of refusals that have a line
abbrev pub line_numbers : List ℕ
line_numbers = 1 ∷ 2 ∷ 3 ∷ 4 ∷ 5 ∷ 6 ∷ 7 ∷ 8 ∷ 9 ∷ 10 ∷ 11 ∷ 12 ∷ 13 ∷ 28 ∷ []

abbrev pub lines : ℕ
lines = 14

abbrev pub conditions : ℕ
conditions = 4

abbrev pub numbers_on : Page → List ℕ
numbers_on P = P.meshes ∷ P.corners ∷ P.borders ∷ P.refusals ++ P.misses

abbrev pub zero_page : Page
zero_page = page_with 0 0 0 (replicate lines 0) (replicate conditions 0)

-- ---- the largest of the values below n; zero where there are none
unfoldable pub largest_below : ℕ → (ℕ → ℕ) → ℕ
largest_below zero f = 0
largest_below (suc n) f = max (largest_below n f) (f n)

-- the four conditions across a side, in their order
abbrev pub condition : ℕ → ℤ → ℤ → ℤ → ℤ → ℤ → ℤ → ℤ → ℤ → ℤ
condition zero = first
condition (suc zero) = second
condition (suc (suc zero)) = third
condition (suc (suc (suc j))) = fourth

-- by how much condition j is missed at a border on an axis, of the numbers that building writes for all corners: a whole number over 2^30, its sign
-- dropped
abbrev pub miss_on : Mesh → ℕ → ℕ → Side → ℕ → ℕ
miss_on M j c s axis = let O = output_of M 0 (corner_count M) in nat_abs (miss M O O axis c s (condition j) j)

-- in any of the three coordinates
unfoldable pub miss_at : Mesh → ℕ → ℕ → Side → ℕ
miss_at M j c s = largest_below 3 (miss_on M j c s)

-- each border counts once, not from both its sides: sides 0 and 1 of each corner (`BordersOnce` of Claims)
abbrev pub is_counted : Side → Bool
is_counted side0 = true
is_counted side1 = true
is_counted side2 = false
is_counted side3 = false

abbrev pub border_count : Mesh → ℕ
border_count M = 2 * corner_count M

unfoldable pub largest_miss : Mesh → ℕ → ℕ
largest_miss M j = largest_below (corner_count M) (λ c. max (miss_at M j c side0) (miss_at M j c side1))

-- the side s of c and the neighbour's side are one border, of which one of the two counts, with the same misses from both
pub record Once (M : Mesh) (c : ℕ) (s : Side) : Type 0 where
  pub below : beside M c s < corner_count M
  pub back : beside M (beside M c s) (across s) ≡ c
  pub back_side : across (across s) ≡ s
  pub one_counts : is_counted (across s) ≡ not (is_counted s)
  pub same : (j : ℕ) → j < conditions → miss_at M j (beside M c s) (across s) ≡ miss_at M j c s

-- ---- the next page, of a mesh of whose file the checks give this verdict: an accepted one adds its corners and borders; a refused one adds one to the
-- meshes and one under its number, nothing else
unfoldable pub added : Page → Mesh → Verdict → Page
added P M sound = page_with
    (P.meshes + 1)
    (P.corners + corner_count M)
    (P.borders + border_count M)
    P.refusals
    (values_from (λ j. max (get_or P.misses j 0) (largest_miss M j)) 0 conditions)
added P M (fault number place) = page_with
    (P.meshes + 1)
    P.corners
    P.borders
    (values_from (λ l. get_or P.refusals l 0 + pick_n (eqb (get_or line_numbers l 0) number) 1 0) 0 lines)
    P.misses

-- ---- 37: the page counts 4,096 meshes or more (place 4,096); then 38: a number on it is above 2^40 (place 0)
abbrev pub most_meshes : ℕ
most_meshes = 4096

abbrev pub most_on_page : ℕ
most_on_page = 2 ^ 40

unfoldable pub some_above : List ℕ → Bool
some_above [] = false
some_above (n ∷ l) = ltb most_on_page n || some_above l

abbrev pub fault38 : Page → Bool
fault38 P = some_above (numbers_on P)

unfoldable pub page_verdict : Page → Verdict
page_verdict P = single 37 (leb most_meshes P.meshes) most_meshes or_else single 38 (fault38 P) 0

-- ---- a file as it is offered: the bytes read, and the length counted
pub record Offered : Type 0 where
  pub bytes : List ℕ
  pub counted : ℕ

abbrev pub offered : List ℕ → ℕ → Offered
offered bytes counted = record { bytes = bytes; counted = counted }

abbrev pub mesh_in : Offered → Mesh
mesh_in F = file_mesh (file_of F.bytes F.counted)

abbrev pub verdict_in : Offered → Verdict
verdict_in F = file_verdict (file_of F.bytes F.counted) F.counted

-- the next page, or the page as it was
unfoldable pub page_after : Page → Offered → Page
page_after P F = kept (page_verdict P) (added P (mesh_in F) (verdict_in F)) P

-- what a call that takes a page returns: the next page, or a refusal and the page as it was; its answer alone; the page alone
abbrev pub NextPage : Type 0
NextPage = Result Page RefusedPage

abbrev pub answer_of : NextPage → Told Page
answer_of (Ok next) = Ok next
answer_of (Err refused) = Err refused.refusal

abbrev pub page_left : NextPage → Page
page_left (Ok next) = next
page_left (Err refused) = refused.page

-- a call of the report with this page and this file
pub record ReportedTo (P : Page) (F : Offered) (r : NextPage) : Type 0 where
  pub answers : stated (answer_of r) ≡ page_verdict P
  pub holds : page_left r ≡ page_after P F

-- ---- a run: the page after one file goes to the next call
abbrev pub run : Page → List Offered → Page
run P [] = P
run P (F ∷ files) = run (page_after P F) files

-- over the accepted meshes the sum of their values, and the largest of them
abbrev pub if_accepted : Verdict → ℕ → ℕ
if_accepted sound n = n
if_accepted (fault number place) n = 0

abbrev pub total : (Mesh → ℕ) → List Offered → ℕ
total f [] = 0
total f (F ∷ files) = if_accepted (verdict_in F) (f (mesh_in F)) + total f files

abbrev pub largest : (Mesh → ℕ) → List Offered → ℕ
largest f [] = 0
largest f (F ∷ files) = max (if_accepted (verdict_in F) (f (mesh_in F))) (largest f files)

-- how many are refused under a number
abbrev pub is_under : ℕ → Verdict → ℕ
is_under number sound = 0
is_under number (fault k place) = pick_n (eqb number k) 1 0

abbrev pub refused_under : ℕ → List Offered → ℕ
refused_under number [] = 0
refused_under number (F ∷ files) = is_under number (verdict_in F) + refused_under number files

-- what the page says of a run from the all-zero page
unfoldable pub page_of : List Offered → Page
page_of files = page_with
    (length files)
    (total corner_count files)
    (total border_count files)
    (values_from (λ l. refused_under (get_or line_numbers l 0) files) 0 lines)
    (values_from (λ j. largest (λ M. largest_miss M j) files) 0 conditions)

-- a number has the line l, and one more under it
abbrev pub AtLine : ℕ → ℕ → Type 0
AtLine number l = (l < lines) × (get_or line_numbers l 0 ≡ number)

abbrev pub one_more : Page → ℕ → Page
one_more P l = page_with (P.meshes + 1) P.corners P.borders (set P.refusals l (get_or P.refusals l 0 + 1)) P.misses

pub record AddsOne (P : Page) (F : Offered) (number : ℕ) : Type 0 where
  pub line : ℕ
  pub has_line : AtLine number line
  pub adds_one : page_after P F ≡ one_more P line

-- the same files in another order: two neighbours changed places, as often as one likes
pub data Reordered : List Offered → List Offered → Type 0 where
  same : (files : List Offered) → Reordered files files
  swapped : (before : List Offered) (F G : Offered) (after : List Offered) → Reordered (before ++ F ∷ G ∷ after) (before ++ G ∷ F ∷ after)
  then : {files more others : List Offered} → Reordered files more → Reordered more others → Reordered files others

-- ---- two pages as one: sums of the counts, the larger of each two misses. 37 where the two count more than 4,096 meshes (place 4,096), then 38 where a
-- number on either is above 2^40 (place 0)
unfoldable pub merged : Page → Page → Page
merged P Q = page_with
    (P.meshes + Q.meshes)
    (P.corners + Q.corners)
    (P.borders + Q.borders)
    (values_from (λ l. get_or P.refusals l 0 + get_or Q.refusals l 0) 0 lines)
    (values_from (λ j. max (get_or P.misses j 0) (get_or Q.misses j 0)) 0 conditions)

unfoldable pub merge_verdict : Page → Page → Verdict
merge_verdict P Q = single 37 (ltb most_meshes (P.meshes + Q.meshes)) most_meshes or_else single 38 (fault38 P || fault38 Q) 0

pub record MergedTo (P Q : Page) (r : NextPage) : Type 0 where
  pub answers : stated (answer_of r) ≡ merge_verdict P Q
  pub holds : page_left r ≡ kept (merge_verdict P Q) (merged P Q) P
