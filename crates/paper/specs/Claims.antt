-- The theorems, as types, in two parts, each in the order of the papers: what 01 and 02 ask, each with the sentence that it answers, and what we add.
-- `Demanded` and `Further` list the two, and crate claims has a value of both, `Claims`. What the papers ask of a call, its answer and what it leaves, is
-- in that call's contract; here is what they ask beyond one call.
use Rattle.std.specs.Prelude.{◌≡◌, Bool, true, false, List, ◌++◌, ◌↔◌, ℕ, ◌+◌, ◌*◌, ◌%◌, ◌≤◌, ◌<◌, length, get_or, take, drop, ℤ, pos, nat_abs, Ok}
use Rattle.paper.specs.Mesh.{Mesh, vertex_count, face_count, corner_count, least_sides, most_sides, plain_list}
use Rattle.paper.specs.Links.{link_table}
use Rattle.paper.specs.Faults.{sound, fault, list_faults, Accepted, fault27, fault28, stated, Told, Answer, done}
use Rattle.paper.specs.Numbers.{rounded, Fraction, exact}
use Rattle.paper.specs.Cosines.{unit, RowRules}
use Rattle.paper.specs.Refined.{refined_of, refined_of01}
use Rattle.paper.specs.Net.{Side, across, at_head, at_tail, net_points}
use Rattle.paper.specs.File.{version_in, file_mesh, FileSurveyed}
use Rattle.paper.specs.Calls.{per_corner, nets, Built}
use Rattle.paper.specs.Floats.{net_verdict, difference, far_first, far_second, axes, InFloats, sums, FarPair}
use Rattle.paper.specs.Nesting.{ends_at_sun, table_verdict, nesting_verdict, listed, Nested, ReachesSun, Ordered}
use Rattle.paper.specs.Irregular.{Searched, Agreed}
use Rattle.paper.specs.Archive.{Archived, Restored, All32Bit, AllBytes}
use Rattle.paper.specs.Off.{words_of, words_end, OffRead}
use Rattle.paper.specs.Preview.{moved, Previewed, Touched}
use Rattle.paper.specs.Turning.{turned_mesh, edge_faults, in_steps, connected, keeps_lowest, turns_of, TurnedTo}
use Rattle.paper.specs.CFace.{BuildCall, PreviewCall, Sizes, TrianglesCall, CountTrianglesCall, TangentsAtCall, TangentsCall}
use Rattle.paper.specs.Borders.{Output, output_at, Wrote, output_of, Holds, written, most_miss, beside, Borders, Smooth}
use Rattle.paper.specs.Sampling.{Weights, weights, on_axis, Sampled, TriangleSampled, side_number, net_in, Alike, control_point, Leaves, Between, row_start}
use Rattle.paper.specs.Triangles.{apex, foot, point_number, sample_number, point_list, triangle_list, Triangulated, TrianglesCounted, ClosedMesh, Spot}
use Rattle.paper.specs.Tangents.{most_tangent, TangentsSampled, TangentsFilled}
use Rattle.paper.specs.Report.{Once, Offered, verdict_in, zero_page, most_meshes, conditions, page_verdict, run, page_of, AddsOne, Reordered, NextPage, MergedTo}
use Rattle.paper.specs.Mirror.{Mirror}
use Rattle.paper.specs.Accuracy.{Same, Accurate}
use Rattle.paper.specs.Manifold.{Manifold}
use Rattle.paper.specs.Examples.{AllGive, examples}
use Rattle.paper.specs.declared.Counts.{Counts}
use Rattle.paper.specs.declared.FloatPoint.{FloatPoint}
use Rattle.paper.specs.declared.Lengths.{Lengths}
use Rattle.paper.specs.declared.Move.{Move}
use Rattle.paper.specs.declared.Page.{Page}
use Rattle.paper.specs.declared.Search.{Search}
use Rattle.paper.specs.declared.Triangles.{Triangles}

-- ========================================================================================================================================================
-- What 01 and 02 ask

-- ---- 01, "Numbers used": "these rules are shown for it: C(m,0) = 2^30; C(m,k) = C(m,m-k); it falls strictly from k = 0 to k = m/2 rounded down; and 2^30 times
-- (C(m,k+1) + C(m,k-1)) differs from 2 · C(m,1) · C(m,k) by at most 3 · 2^30." L5: "under the same rules, shown in one argument for all rows"
abbrev pub TableRules : Type 0
TableRules = (m : ℕ) → least_sides ≤ m → m ≤ most_sides → RowRules m

-- ---- 01, "The four conditions across a side": "these are exact fractions, each within -13 to 13". Of every border within the outputs, and between the outputs,
-- that any two calls on a mesh leave; the common curve is the same in both. L2: "The accuracy bound across borders keeps its 13 ticks"; L5: "What is said of
-- borders now speaks of all these meshes"; L8: "The border rule covers all sharpness values"
abbrev pub Demand3 : Type 0
Demand3 = (M : Mesh) (A B : Output) → Wrote M A → Wrote M B → Borders M A B

-- ---- 01, "Checked examples": "Those with (p) are shown together, as rows of one table with a single claim over it"
abbrev pub ExamplesAgree : Type 0
ExamplesAgree = AllGive examples

-- ---- L1: "In a near point, each float, read back as a whole number, is the difference." Of a near point the sum is the float itself, of a far one that of the pair
abbrev pub FloatSums : Type 0
FloatSums =
    (numbers : List ℤ) (point : ℕ) (r : Told FloatPoint) → InFloats numbers point r → net_verdict numbers ≡ sound → point ≤ 40
    → sums r ≡ axes (difference numbers point 0) (difference numbers point 1) (difference numbers point 2)

-- "In a far pair the first float is a multiple of 4,096, the second lies in 0 to 4,095, and their whole-number sum is the difference."
abbrev pub FarPairs : Type 0
FarPairs = (d : ℤ) → FarPair d (far_first d) (far_second d)

-- ---- L2: "For a mesh with all x negated and nothing else altered, each control point must be the old one with x negated." On each axis and for every mesh
abbrev pub Mirrors : Type 0
Mirrors = (axis : ℕ) (M : Mesh) → Mirror axis M

-- ---- L4: "We want a listing in which every body stands after the one it hangs in, with the lowest number first among those that may come next."
abbrev pub ListingOrdered : Type 0
ListingOrdered = (holders old out : List ℕ) → Nested holders old done out → Ordered holders out

-- "A table that passes 21 and 22 is accepted exactly when every body's chain ends at the Sun."
abbrev pub ChainsDecide : Type 0
ChainsDecide =
    (holders : List ℕ) (n : ℕ) → table_verdict holders n ≡ sound
    → (nesting_verdict holders n ≡ sound) ↔ ((b : ℕ) → b < length holders → ReachesSun holders b)

-- "23 when a chain does not end at the Sun (place: the lowest such body)": the test of one body, of which 23 answers the lowest that fails, holds exactly when that
-- body's chain ends, after however many steps
abbrev pub EachChain : Type 0
EachChain =
    (holders : List ℕ) (n : ℕ) → table_verdict holders n ≡ sound → (b : ℕ) → b < length holders → (ends_at_sun holders b ≡ true) ↔ ReachesSun holders b

-- ---- L6: "place in 25 and 26: the word's number from 0, for a missing word the number of words there are". The place of 25 is above 0, as word 0 is OFF
abbrev pub MissingWord : Type 0
MissingWord =
    (text : List ℕ) (lent : Mesh) (r : Told Lengths) (lists : Mesh) (p : ℕ) → OffRead text lent r lists → stated r ≡ fault 25 p
    → (0 < p) × (p ≤ length (words_of text))

-- ---- L7: "It must agree with the lines that `inspect` prints: a face exactly when a later line other than 4's counts faces, else a vertex exactly when such a line
-- counts vertices."
abbrev pub LinesAgree : Type 0
LinesAgree =
    (file : List ℕ) (counted : ℕ) (counts : Counts) (r : Told Search)
    → FileSurveyed file counted (Ok counts) → Searched (file_mesh file) r → (s : Search) × (r ≡ Ok s) × Agreed counts s.found

-- ---- L8: "Version 1 files and OFF models read as 8 and 8 throughout and give today's points." 8 and 8 throughout
abbrev pub Plain : Mesh → Type 0
Plain M = M.sharpness ≡ plain_list (corner_count M)

-- so reads every file of version 1
abbrev pub VersionOne : Type 0
VersionOne = (file : List ℕ) → version_in file ≡ 1 → Plain (file_mesh file)

-- today's points: the refined points of 01, so that all that is computed from them is as it was
abbrev pub PlainPoints : Type 0
PlainPoints = (M : Mesh) → Plain M → (axis : ℕ) → refined_of rounded M axis ≡ refined_of01 rounded M axis

-- ---- L9: "It answers and writes what building would on a copy with that vertex moved". Where the vertex is one; else it is 29
abbrev pub AsBuilding : Type 0
AsBuilding =
    (M : Mesh) (m : Move) (links : List ℕ) (first count : ℕ) (old : List ℤ) (r : Answer) (out : List ℤ)
    → m.vertex < vertex_count M → Previewed M m links first count old r out → Built (moved M m) links first count old r out

-- ---- L10: "Every coordinate of every control point must lie within 5 ticks of it, for all accepted meshes, all sharpness values and all side counts." Of every
-- control point that a call leaves
abbrev pub Accuracy : Type 0
Accuracy = (M : Mesh) (O : Output) → Wrote M O → Accurate M O

-- ---- L11: "The inverse must return every list of 32-bit numbers whose length is a multiple of three." With lent lists of the right lengths: archiving it is done,
-- restoring what that leaves is done, and leaves the list
abbrev pub NumbersReturn : Type 0
NumbersReturn =
    (numbers lent back : List ℤ) (old bytes : List ℕ) (a r : Answer) → All32Bit numbers → length numbers % 3 ≡ 0
    → length old ≡ 4 * length numbers → length lent ≡ length numbers → Archived numbers old a bytes → Restored bytes lent r back
    → (a ≡ done) × (r ≡ done) × (back ≡ numbers)

-- ---- L12: "Between two neighbouring quad-nets, samples with k = 0 and the same i and j on a common side must be the same numbers." Of any two calls of building on
-- a mesh
abbrev pub SamplesClose : Type 0
SamplesClose =
    (M : Mesh) (A B : Output) → Wrote M A → Wrote M B → (c : ℕ) (s : Side) → Holds A c → Holds B (beside M c s)
    → (i j N : ℕ) → Alike (net_in A c) s (net_in B (beside M c s)) (across s) (weights i j 0 N)

-- ---- L13: "a tool that turns faces, keeps the lowest face of each connected part". Of all choices that pass 10 and 11, the one made is the only one that does so
abbrev pub OneChoice : Type 0
OneChoice =
    (M lists : Mesh) (old out : List ℕ) (n : ℕ) → TurnedTo M old (Ok n) lists out
    → (keeps_lowest M.sides M.corners (turns_of M) ≡ true)
    × ((t : ℕ → Bool) → edge_faults (turned_mesh M t) ≡ sound → keeps_lowest M.sides M.corners t ≡ true
    → (f : ℕ) → f < face_count M → t f ≡ turns_of M f)

-- "and lists the turned ones in rising order": at the beginning of the listing, each higher than the one before; and no others
abbrev pub ListingRises : Type 0
ListingRises =
    (M lists : Mesh) (old out : List ℕ) (n : ℕ) → TurnedTo M old (Ok n) lists out
    → ((i j : ℕ) → i < j → j < n → get_or out i 0 < get_or out j 0)
    × ((f : ℕ) → f < face_count M → listed (take n out) f ≡ turns_of M f)

-- "The turned model stands in the lent corner and sharpness lists, and it passes 10 and 11."
abbrev pub TurnedPasses : Type 0
TurnedPasses = (M lists : Mesh) (old out : List ℕ) (n : ℕ) → TurnedTo M old (Ok n) lists out → edge_faults lists ≡ sound

-- "A model that passes 36, 4 to 9, 27 and 28 is refused exactly when no choice of turns does so."
abbrev pub TurnsDecide : Type 0
TurnsDecide =
    (M lists : Mesh) (old out : List ℕ) (r : Told ℕ) → TurnedTo M old r lists out → length old ≡ face_count M → list_faults M ≡ sound
    → (stated r ≡ sound → ⊥) ↔ ((t : ℕ → Bool) → edge_faults (turned_mesh M t) ≡ sound → ⊥)

-- ---- L14: "Each border counts once, not from both its sides."
abbrev pub BordersOnce : Type 0
BordersOnce = (M : Mesh) → Accepted M → (c : ℕ) → c < corner_count M → (s : Side) → Once M c s

-- "Over a run from the all-zero page, corners and borders are the sums over the accepted meshes, and every largest the maximum over their borders, zero where there
-- are none"
abbrev pub RunsSum : Type 0
RunsSum = (files : List Offered) → length files ≤ most_meshes → run zero_page files ≡ page_of files

-- "a refused mesh adds one to the meshes and one under its number, nothing else"
abbrev pub RefusedAdds : Type 0
RefusedAdds =
    (files : List Offered) (F : Offered) (k p : ℕ) → length files < most_meshes → verdict_in F ≡ fault k p → AddsOne (run zero_page files) F k

-- "A run has at most 4,096 meshes." In such a run no call is refused
abbrev pub RunsPass : Type 0
RunsPass = (files : List Offered) → length files < most_meshes → page_verdict (run zero_page files) ≡ sound

-- ========================================================================================================================================================
-- What we add: corollaries, the sanity of definitions, and the triangles

-- ---- of accepted meshes: what holds at each corner
abbrev pub Manifolds : Type 0
Manifolds = (M : Mesh) → Accepted M → (c : ℕ) → c < corner_count M → Manifold M c

-- ---- of building: no range of an accepted mesh is refused, with the link table that linking writes and an output of the right length
abbrev pub EveryRange : Type 0
EveryRange =
    (M : Mesh) → Accepted M → (first count : ℕ) → 0 < count → first + count ≤ corner_count M
    → (old : List ℤ) → length old ≡ per_corner * count → Built M (link_table M) first count old done (nets M first count)

-- every border of an accepted mesh, as one call for all its corners leaves it
abbrev pub EveryBorder : Type 0
EveryBorder =
    (M : Mesh) → Accepted M → (c : ℕ) → c < corner_count M → (s : Side) → (axis : ℕ) → axis < 3
    → Smooth M (output_of M 0 (corner_count M)) (output_of M 0 (corner_count M)) axis c s

-- a call of `mahunopi_build` that answers 0 is a call of building that is not refused: what holds of calls holds of it
abbrev pub CallsFromC : Type 0
CallsFromC =
    (M : Mesh) (links : List ℕ) (first count : ℕ) (old : List ℤ) (before after : ℕ) (out : List ℤ)
    → BuildCall M links first count old before 0 after out → Built M links first count old done out

-- ---- L1: there is one answer, to the bit
abbrev pub OneAnswer : Type 0
OneAnswer = (numbers : List ℤ) (point : ℕ) (r s : Told FloatPoint) → InFloats numbers point r → InFloats numbers point s → r ≡ s

-- every net that building writes passes 18 and 19
abbrev pub NetsPass : Type 0
NetsPass =
    (M : Mesh) (links : List ℕ) (first count : ℕ) (old out : List ℤ) → Built M links first count old done out
    → (k : ℕ) → k < count → net_verdict (take per_corner (drop (per_corner * k) out)) ≡ sound

-- ---- L4: no other list is ordered as the listing is
abbrev pub OneListing : Type 0
OneListing = (holders old out other : List ℕ) → Nested holders old done out → Ordered holders other → other ≡ out

-- ---- L6: 6 is never answered, as the side counts of a text sum to its corners
abbrev pub NoSix : Type 0
NoSix = (text : List ℕ) (lent : Mesh) (r : Told Lengths) (lists : Mesh) (p : ℕ) → OffRead text lent r lists → stated r ≡ fault 6 p → ⊥

-- an accepted text has the needed words and no others
abbrev pub WholeText : Type 0
WholeText =
    (text : List ℕ) (lent : Mesh) (l : Lengths) (lists : Mesh) → OffRead text lent (Ok l) lists → words_end (words_of text) ≡ length (words_of text)

-- ---- L8: with 8 and 8 throughout neither 27 nor 28 applies
abbrev pub PlainPasses : Type 0
PlainPasses = (M : Mesh) → Plain M → (fault27 (length M.sharpness) (corner_count M) ≡ false) × ((i : ℕ) → fault28 M.sharpness i ≡ false)

-- ---- L9: a preview that is not refused is a call of building on the moved lists that is not refused: what holds of calls holds of it
abbrev pub PreviewsBuild : Type 0
PreviewsBuild =
    (M : Mesh) (m : Move) (links : List ℕ) (first count : ℕ) (old out : List ℤ)
    → Previewed M m links first count old done out → Built (moved M m) links first count old done out

-- and so is a call of `mahunopi_preview` that answers 0
abbrev pub PreviewsFromC : Type 0
PreviewsFromC =
    (M : Mesh) (m : Move) (links : List ℕ) (first count : ℕ) (old : List ℤ) (before after : ℕ) (out : List ℤ)
    → PreviewCall M m links first count old before 0 after out → Built (moved M m) links first count old done out

-- a corner whose mark is 0 has the same numbers before and after the move, in whatever two calls have it in their ranges
abbrev pub Untouched : Type 0
Untouched =
    (M : Mesh) (m : Move) (lent marks links links' : List ℕ) (first count first' count' : ℕ) (old old' out out' : List ℤ)
    → Touched M m.vertex lent done marks
    → Built M links first count old done out → Built (moved M m) links' first' count' old' done out'
    → (c : ℕ) → Holds (output_at out first count) c → Holds (output_at out' first' count') c → get_or marks c 0 ≡ 0
    → (axis k : ℕ) → axis < 3 → k < net_points → written (output_at out' first' count') axis c k ≡ written (output_at out first count) axis c k

-- ---- L10: no division of the exact reading rounds, since a quotient, times its divisor, is what was divided
abbrev pub NoRounding : Type 0
NoRounding = (q : Fraction) (d : ℕ) → 0 < d → Same (exact.◌·◌ (pos d) (exact.◌÷◌ q d)) q

-- ---- L11: every list of bytes that is four times as long as a list whose length is a multiple of three comes back too
abbrev pub BytesReturn : Type 0
BytesReturn =
    (bytes old back : List ℕ) (lent numbers : List ℤ) (a r : Answer) → AllBytes bytes → length lent % 3 ≡ 0
    → length bytes ≡ 4 * length lent → length old ≡ length bytes → Restored bytes lent r numbers → Archived numbers old a back
    → (r ≡ done) × (a ≡ done) × (back ≡ bytes)

-- ---- L12: two triangles of one quad-net agree on the ray that they share, from their head or from their tail to the centre
abbrev pub RaysAgree : Type 0
RaysAgree =
    (numbers : List ℤ) (s : Side) (i j k N : ℕ)
    → Alike numbers s numbers (at_head s) (weights i 0 k N) × Alike numbers s numbers (at_tail s) (weights 0 j k N)

-- at i = N, j = N and k = N the sample is head, tail and centre
abbrev pub SampleEnds : Type 0
SampleEnds =
    (numbers : List ℤ) (s : Side) (N : ℕ)
    → Leaves numbers s (weights N 0 0 N) (control_point numbers s 0 0) × Leaves numbers s (weights 0 N 0 N) (control_point numbers s 0 4)
    × Leaves numbers s (weights 0 0 N N) (control_point numbers s 4 0)

-- each number of a sample lies between the least and the largest of its triangle's 15 coordinates
abbrev pub SamplesBetween : Type 0
SamplesBetween =
    (numbers : List ℤ) (s : Side) (w : Weights) (old out : List ℤ) → Sampled numbers (side_number s) w old done out
    → (axis : ℕ) → axis < 3 → Between (on_axis numbers axis) s (get_or out axis (pos 0))

-- the call for a triangle leaves the single samples: that of i, j, k is the one at place j of row k
abbrev pub TrianglesSample : Type 0
TrianglesSample =
    (numbers : List ℤ) (side N : ℕ) (old out : List ℤ) → TriangleSampled numbers side N old done out
    → (i j k : ℕ) → i + j + k ≡ N → (old' point : List ℤ) (r : Answer) → Sampled numbers side (weights i j k N) old' r point
    → (r ≡ done) × (point ≡ take 3 (drop (3 * (row_start N k + j)) out))

-- ---- L13: turning the same faces again gives the model back, whichever they are
abbrev pub TurnedTwice : Type 0
TurnedTwice = (M : Mesh) → list_faults M ≡ sound → (t : ℕ → Bool) → turned_mesh (turned_mesh M t) t ≡ M

-- and so for a call
abbrev pub TurnedBack : Type 0
TurnedBack =
    (M lists : Mesh) (old out : List ℕ) (n : ℕ) → TurnedTo M old (Ok n) lists out → turned_mesh lists (turns_of M) ≡ M

-- a model that already passes 10 and 11 is returned as it was, with nothing turned
abbrev pub NothingTurned : Type 0
NothingTurned =
    (M lists : Mesh) (old out : List ℕ) (r : Told ℕ) → TurnedTo M old r lists out → length old ≡ face_count M → list_faults M ≡ sound
    → edge_faults M ≡ sound → (r ≡ Ok 0) × (lists ≡ M) × (out ≡ old)

-- no face is farther from another than as many steps over shared edges as there are faces
abbrev pub NoneFarther : Type 0
NoneFarther =
    (M : Mesh) (k f g : ℕ) → g < face_count M
    → in_steps M.sides M.corners k f g ≡ true → connected M.sides M.corners f g ≡ true

-- ---- L14: no miss is larger than 13 ticks
abbrev pub MissesWithin : Type 0
MissesWithin =
    (files : List Offered) → length files ≤ most_meshes → (j : ℕ) → j < conditions → get_or (run zero_page files).misses j 0 ≤ most_miss * unit

-- the order of the files does not matter
abbrev pub OrderFree : Type 0
OrderFree = (files others : List Offered) → Reordered files others → length files ≤ most_meshes → run zero_page files ≡ run zero_page others

-- a call that merges the pages of two parts is done and leaves the page of the whole run
abbrev pub PartsMerge : Type 0
PartsMerge =
    (files more : List Offered) (r : NextPage) → length files + length more ≤ most_meshes → MergedTo (run zero_page files) (run zero_page more) r
    → r ≡ Ok (run zero_page (files ++ more))

-- ---- the triangles of the whole surface: `Whole says` is that `says` holds of the points and the triangles that a call for all corners has written, whatever the
-- mesh and its levels, if the call is not refused
abbrev pub Whole : (Mesh → List ℕ → List ℤ → List ℕ → Type 0) → Type 0
Whole says =
    (M : Mesh) (links levels : List ℕ) (old : List ℤ) (old' : List ℕ) (n : Triangles) (points : List ℤ) (triangles : List ℕ)
    → Triangulated M links levels 0 (corner_count M) old old' (Ok n) points triangles
    → says M levels (take n.points points) (take n.triangles triangles)

-- the triangles close: wherever one triangle has an edge from point p to point q, exactly one has the edge from q to p. So no gap is left between two of them,
-- no edge has a third, and all are wound in the same direction
abbrev pub SurfaceCloses : Type 0
SurfaceCloses = Whole (λ M levels points triangles. ClosedMesh triangles)

-- the indices fit the points: each index is the number of a point that was written, and each point is a corner of some triangle
abbrev pub PointsUsed : Type 0
PointsUsed =
    Whole (λ M levels points triangles. ((x : ℕ) → x < length triangles → 3 * get_or triangles x 0 + 2 < length points)
    × ((q : ℕ) → 3 * q < length points → (x : ℕ) × (x < length triangles) × (get_or triangles x 0 ≡ q)))

-- the points lie on the surface: take any corner's net, any of its sides, and any place there; the point with that place's number is what sampling that side
-- of that net at that place's weights gives. So a point that several nets share is the sample of each of them
abbrev pub PointsSample : Type 0
PointsSample =
    Whole (λ M levels points triangles. (c : ℕ) (s : Side) (k j axis : ℕ) → Spot M levels c s k j → axis < 3
    → get_or points (3 * point_number M levels c s k j + axis) (pos 0) ≡ sample_number M levels c s k j axis)

-- where two nets have one level their rows match: between a row of p segments and a row of p points, segment j is joined to point j. So a mesh whose levels
-- are all the same has the plain grid that `sample_triangle` has
abbrev pub PlainStrips : Type 0
PlainStrips = (s : Side) (p : ℕ) → ((j : ℕ) → j < p → apex s p p j ≡ j) × ((i : ℕ) → i + 1 < p → foot s p p i ≡ i + 1)

-- a surface can be made in parts: what a call writes for a range of corners, followed by what a call writes for the next range, is what one call writes for both
abbrev pub RangesJoin : Type 0
RangesJoin =
    (M : Mesh) (levels : List ℕ) (first count more : ℕ)
    → (point_list M levels first (count + more) ≡ point_list M levels first count ++ point_list M levels (first + count) more)
    × (triangle_list M levels first (count + more) ≡ triangle_list M levels first count ++ triangle_list M levels (first + count) more)

-- counting serves: if the counting call is not refused, then neither is a call on the same input whose two lists have room for the counted numbers
abbrev pub CountsServe : Type 0
CountsServe =
    (M : Mesh) (links levels : List ℕ) (first count : ℕ) (n : Triangles) (r : Told Triangles) (old points : List ℤ) (old' triangles : List ℕ)
    → TrianglesCounted M links levels first count (Ok n) → n.points ≤ length old → n.triangles ≤ length old'
    → Triangulated M links levels first count old old' r points triangles → stated r ≡ sound

-- a call of `mahunopi_triangles` that answers 0 is a call for triangles that is not refused, and its two counts are those that stand behind `point_numbers` and
-- `triangle_numbers`: what holds of calls holds of it. So is a call of `mahunopi_count_triangles` one that counts
abbrev pub TrianglesFromC : Type 0
TrianglesFromC =
    (M : Mesh) (links levels : List ℕ) (first count : ℕ) (old : List ℤ) (old' : List ℕ) (lent : Sizes) (before after : ℕ) (points : List ℤ) (triangles : List ℕ)
    (told : Sizes) → TrianglesCall M links levels first count old old' lent before 0 after points triangles told
    → Triangulated M links levels first count old old' (Ok (record { points = told.points; triangles = told.triangles })) points triangles

abbrev pub CountsFromC : Type 0
CountsFromC =
    (M : Mesh) (links levels : List ℕ) (first count : ℕ) (lent : Sizes) (before after : ℕ) (told : Sizes)
    → CountTrianglesCall M links levels first count lent before 0 after told
    → TrianglesCounted M links levels first count (Ok (record { points = told.points; triangles = told.triangles }))

-- so is a call of `mahunopi_tangents_at` or `mahunopi_tangents` that answers 0 a call for tangents that is not refused
abbrev pub TangentsFromC : Type 0
TangentsFromC =
    ((numbers : List ℤ) (side : ℕ) (w : Weights) (old : List ℤ) (before after : ℕ) (out : List ℤ)
    → TangentsAtCall numbers side w old before 0 after out → TangentsSampled numbers side w old done out)
    × ((M : Mesh) (links levels : List ℕ) (first count : ℕ) (old : List ℤ) (lent before after : ℕ) (out : List ℤ) (told : ℕ)
    → TangentsCall M links levels first count old lent before 0 after out told
    → TangentsFilled M links levels first count old (Ok told) out)

-- the tangents along a border agree: at a point of a common curve two calls, one on each of its nets, of any two outputs of a mesh, answer the same and leave the
-- same tangent towards the tail. The weights are i of the head and j of the tail
abbrev pub TangentsClose : Type 0
TangentsClose =
    (M : Mesh) (A B : Output) → Wrote M A → Wrote M B → (c : ℕ) (s : Side) → Holds A c → Holds B (beside M c s)
    → (i j N : ℕ) (old old' out out' : List ℤ) (r r' : Answer)
    → TangentsSampled (net_in A c) (side_number s) (weights i j 0 N) old r out
    → TangentsSampled (net_in B (beside M c s)) (side_number (across s)) (weights i j 0 N) old' r' out'
    → (r ≡ r') × (r ≡ done → take 3 out ≡ take 3 out')

-- the numbers of tangents are small: each that a call leaves, for one sample or for a range of corners, lies within -`most_tangent` to
-- `most_tangent`
abbrev pub TangentsWithin : Type 0
TangentsWithin =
    ((numbers : List ℤ) (side : ℕ) (w : Weights) (old out : List ℤ) → TangentsSampled numbers side w old done out
    → (e : ℕ) → e < 6 → nat_abs (get_or out e (pos 0)) ≤ most_tangent)
    × ((M : Mesh) (links levels : List ℕ) (first count : ℕ) (old : List ℤ) (n : ℕ) (out : List ℤ)
    → TangentsFilled M links levels first count old (Ok n) out → (x : ℕ) → x < n → nat_abs (get_or out x (pos 0)) ≤ most_tangent)

-- ========================================================================================================================================================
-- All of them

-- what 01 and 02 ask
pub record Demanded : Type 0 where
  pub rules : TableRules
  pub demand3 : Demand3
  pub examples : ExamplesAgree
  pub float_sums : FloatSums
  pub far_pairs : FarPairs
  pub mirrors : Mirrors
  pub listing_ordered : ListingOrdered
  pub chains_decide : ChainsDecide
  pub each_chain : EachChain
  pub missing_word : MissingWord
  pub lines_agree : LinesAgree
  pub version_one : VersionOne
  pub plain_points : PlainPoints
  pub as_building : AsBuilding
  pub accuracy : Accuracy
  pub numbers_return : NumbersReturn
  pub samples_close : SamplesClose
  pub one_choice : OneChoice
  pub listing_rises : ListingRises
  pub turned_passes : TurnedPasses
  pub turns_decide : TurnsDecide
  pub borders_once : BordersOnce
  pub runs_sum : RunsSum
  pub refused_adds : RefusedAdds
  pub runs_pass : RunsPass

-- what we add
pub record Further : Type 0 where
  pub manifold : Manifolds
  pub ranges : EveryRange
  pub every_border : EveryBorder
  pub from_c : CallsFromC
  pub one_answer : OneAnswer
  pub nets_pass : NetsPass
  pub one_listing : OneListing
  pub no_six : NoSix
  pub whole_text : WholeText
  pub plain_passes : PlainPasses
  pub previews_build : PreviewsBuild
  pub previews_from_c : PreviewsFromC
  pub untouched : Untouched
  pub no_rounding : NoRounding
  pub bytes_return : BytesReturn
  pub rays_agree : RaysAgree
  pub sample_ends : SampleEnds
  pub samples_between : SamplesBetween
  pub triangles_sample : TrianglesSample
  pub turned_twice : TurnedTwice
  pub turned_back : TurnedBack
  pub nothing_turned : NothingTurned
  pub none_farther : NoneFarther
  pub misses_within : MissesWithin
  pub order_free : OrderFree
  pub parts_merge : PartsMerge
  pub surface_closes : SurfaceCloses
  pub points_used : PointsUsed
  pub points_sample : PointsSample
  pub plain_strips : PlainStrips
  pub ranges_join : RangesJoin
  pub counts_serve : CountsServe
  pub triangles_from_c : TrianglesFromC
  pub counts_from_c : CountsFromC
  pub tangents_from_c : TangentsFromC
  pub tangents_close : TangentsClose
  pub tangents_within : TangentsWithin

pub record Claims : Type 0 where
  pub demanded : Demanded
  pub further : Further
