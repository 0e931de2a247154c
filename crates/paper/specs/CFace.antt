-- The C face: what each call answers, what stands behind `place` and what each lent space holds afterwards. The verdicts and
-- contents are those of the functions that it wraps. A call that fills one lent space is `Called`; those that fill more have records of their own.
use Rattle.std.specs.Prelude.{◌≡◌, ◌||◌, List, ℕ, ◌+◌, ltb, length, get_or, set, ℤ, Float, Ok, Err}
use Rattle.paper.specs.Mesh.{Mesh, lengths_of, most_sides, vertex_count, face_count, corner_count}
use Rattle.paper.specs.Scan.{values_from}
use Rattle.paper.specs.Links.{link_table}
use Rattle.paper.specs.Faults.{Verdict, sound, fault, ◌or_else◌, single, verdict, link_verdict, kept, Told}
use Rattle.paper.specs.Counts.{vertices_with, faces_with, for_each}
use Rattle.paper.specs.File.{file_mesh, file_verdict, begins, into, no_room, decode_verdict}
use Rattle.paper.specs.Calls.{nets, build_verdict}
use Rattle.paper.specs.Floats.{point_verdict, InFloats, all_verdict, all_floats, NoneRounded}
use Rattle.paper.specs.Nesting.{nesting_verdict, listing}
use Rattle.paper.specs.Irregular.{SearchCase, face_found, vertex_found, none_found, search_refused, irregular_of}
use Rattle.paper.specs.Archive.{archive_verdict, archived, restored}
use Rattle.paper.specs.Off.{off_verdict, text_mesh}
use Rattle.paper.specs.Preview.{moved, preview_verdict, touch_marks, touched_verdict}
use Rattle.paper.specs.Turning.{turned_mesh, turns_of, turned_faces, turn_verdict}
use Rattle.paper.specs.Sampling.{Weights, sample_point, sample_verdict, side_at, triangle_samples, triangle_verdict}
use Rattle.paper.specs.Triangles.{point_list, triangle_list, level_verdict, triangle_room}
use Rattle.paper.specs.Tangents.{tangent_pair, tangent_list, tangent_verdict}
use Rattle.paper.specs.Report.{page_with, lines, conditions, numbers_on, added, page_verdict, Offered, mesh_in, verdict_in, merged, merge_verdict}
use Rattle.paper.specs.declared.Counts.{Counts}
use Rattle.paper.specs.declared.Floats.{Floats}
use Rattle.paper.specs.declared.FloatPoint.{FloatPoint}
use Rattle.paper.specs.declared.FloatPoint.TheVariants.{Near, Far}
use Rattle.paper.specs.declared.Lengths.{Lengths}
use Rattle.paper.specs.declared.Move.{Move}
use Rattle.paper.specs.declared.Page.{Page}

-- 0 is done, any other number is the refusal's
abbrev pub number_of : Verdict → ℕ
number_of sound = 0
number_of (fault number place) = number

-- what stands behind `place`: the refusal's place; left alone where nothing is refused
abbrev pub place_of : Verdict → ℕ → ℕ
place_of sound old = old
place_of (fault number place) old = place

-- a call that answers r and leaves `after` behind `place` states the verdict v
pub record States (v : Verdict) (before r after : ℕ) : Type 0 where
  pub number : r ≡ number_of v
  pub place : after ≡ place_of v before

-- ---- a call that states the verdict v and fills one lent space, which held `old` and holds `out` afterwards: what it writes, `new`, or after a refusal
-- what it held
pub record Called {A : Type 0} (v : Verdict) (new old : A) (before r after : ℕ) (out : A) : Type 0 where
  pub answers : States v before r after
  pub holds : out ≡ kept v new old

abbrev pub LinkCall : Mesh → List ℕ → ℕ → ℕ → ℕ → List ℕ → Type 0
LinkCall M old = Called (link_verdict M (length old)) (link_table M) old

abbrev pub BuildCall : Mesh → List ℕ → ℕ → ℕ → List ℤ → ℕ → ℕ → ℕ → List ℤ → Type 0
BuildCall M links first count old = Called (build_verdict M links first count (length old)) (nets M first count) old

-- ---- a call that fills four lent lists with those of M, and tells their lengths where `lengths` stood
pub record ListsCalled (v : Verdict) (M lent : Mesh) (lengths : Lengths) (before r after : ℕ) (lists : Mesh) (told : Lengths) : Type 0 where
  pub answers : States v before r after
  pub holds : lists ≡ kept v (into M lent) lent
  pub tells : told ≡ kept v (lengths_of M) lengths

-- decoding
abbrev pub lent_verdict : List ℕ → ℕ → Mesh → Verdict
lent_verdict file counted lent =
    decode_verdict file counted (length lent.coordinates) (length lent.sides) (length lent.corners) (length lent.sharpness)

abbrev pub DecodeCall : List ℕ → ℕ → Mesh → Lengths → ℕ → ℕ → ℕ → Mesh → Lengths → Type 0
DecodeCall file counted lent = ListsCalled (lent_verdict file counted lent) (file_mesh file) lent

-- reading OFF
abbrev pub OffCall : List ℕ → Mesh → Lengths → ℕ → ℕ → ℕ → Mesh → Lengths → Type 0
OffCall text lent = ListsCalled (off_verdict text (lengths_of lent)) (text_mesh text) lent

-- the five lent places of surveying: three numbers, and two lists with a number for each m
abbrev pub counts_of : ℕ → ℕ → ℕ → List ℕ → List ℕ → Counts
counts_of vertices faces corners cornered sided = record { vertices = vertices; faces = faces; corners = corners; cornered = cornered; sided = sided }

-- the counts of M, those for each m in the beginnings of lent lists
abbrev pub counts_into : Mesh → Counts → Counts
counts_into M lent =
    counts_of (vertex_count M) (face_count M) (corner_count M) (begins (for_each (vertices_with M)) lent.cornered) (begins (for_each (faces_with M)) lent.sided)

-- surveying refuses as 1 to 13 and 28 do, and then where a lent list has no room for every m
unfoldable pub survey_verdict : List ℕ → ℕ → Counts → Verdict
survey_verdict file counted lent =
    file_verdict file counted
    or_else single no_room (ltb (length lent.cornered) (most_sides + 1) || ltb (length lent.sided) (most_sides + 1)) (most_sides + 1)

abbrev pub SurveyCall : List ℕ → ℕ → Counts → ℕ → ℕ → ℕ → Counts → Type 0
SurveyCall file counted lent = Called (survey_verdict file counted lent) (counts_into (file_mesh file) lent) lent

-- one control point in floats: what the six floats hold, and what stands behind `pairs`
-- a point's floats in the three places from `at` on
abbrev pub put : ℕ → Floats → List Float → List Float
put at p old = set (set (set old at p.x) (at + 1) p.y) (at + 2) p.z

-- near: three floats and 0, the other three left alone; far: the first floats, then the second ones, and 1
abbrev pub laid : Told FloatPoint → List Float → List Float
laid (Ok (Near p)) old = put 0 p old
laid (Ok (Far p q)) old = put 3 q (put 0 p old)
laid (Err refusal) old = old

abbrev pub pairs_of : Told FloatPoint → ℕ → ℕ
pairs_of (Ok (Near p)) old = 0
pairs_of (Ok (Far p q)) old = 1
pairs_of (Err refusal) old = old

pub record FloatsCall (numbers : List ℤ) (point : ℕ) (old : List Float) (pairs before r after : ℕ) (floats : List Float) (told : ℕ) : Type 0 where
  pub answers : States (point_verdict numbers point) before r after
  -- the point as it is asked, to the bit
  pub point_is : Told FloatPoint
  pub pointed : InFloats numbers point point_is
  pub holds : floats ≡ laid point_is old
  pub tells : told ≡ pairs_of point_is pairs

-- all points of a list of quad-nets in floats
pub record FloatsAllCall (numbers : List ℤ) (old : List Float) (before r after : ℕ) (out : List Float) : Type 0 where
  pub answers : States (all_verdict numbers (length old)) before r after
  pub holds : out ≡ kept (all_verdict numbers (length old)) (begins (all_floats numbers) old) old
  pub exact : all_verdict numbers (length old) ≡ sound → NoneRounded numbers

abbrev pub NestCall : List ℕ → List ℕ → ℕ → ℕ → ℕ → List ℕ → Type 0
NestCall holders old = Called (nesting_verdict holders (length old)) (listing holders) old

-- the search for an irregular face or vertex: what stands behind `kind`, `number` and `sides_read`
pub record Finding : Type 0 where
  pub kind : ℕ
  pub number : ℕ
  pub read : ℕ

abbrev pub finding : ℕ → ℕ → ℕ → Finding
finding kind number read = record { kind = kind; number = number; read = read }

-- kind 0 is none, with the number 0, 1 a face, 2 a vertex; all three are left alone beside a refusal
abbrev pub finding_of : SearchCase → Finding → Finding
finding_of (face_found f read) old = finding 1 f read
finding_of (vertex_found u read) old = finding 2 u read
finding_of (none_found read) old = finding 0 0 read
finding_of (search_refused number place) old = old

pub record IrregularCall (M : Mesh) (lent : Finding) (before r after : ℕ) (told : Finding) : Type 0 where
  pub answers : States (verdict M) before r after
  pub tells : told ≡ finding_of (irregular_of M) lent

abbrev pub ArchiveCall : List ℤ → List ℕ → ℕ → ℕ → ℕ → List ℕ → Type 0
ArchiveCall numbers old = Called (archive_verdict (length numbers) (length old)) (archived numbers) old

abbrev pub RestoreCall : List ℕ → List ℤ → ℕ → ℕ → ℕ → List ℤ → Type 0
RestoreCall bytes old = Called (archive_verdict (length old) (length bytes)) (restored bytes (length old)) old

-- trying a vertex before moving it, and the corners that it can change
abbrev pub PreviewCall : Mesh → Move → List ℕ → ℕ → ℕ → List ℤ → ℕ → ℕ → ℕ → List ℤ → Type 0
PreviewCall M m links first count old = Called (preview_verdict M m links first count (length old)) (nets (moved M m) first count) old

abbrev pub TouchedCall : Mesh → ℕ → List ℕ → ℕ → ℕ → ℕ → List ℕ → Type 0
TouchedCall M u old = Called (touched_verdict M u (length old)) (touch_marks M.sides M.corners u) old

-- one sample of a triangle, and all of them
abbrev pub SampleCall : List ℤ → ℕ → Weights → List ℤ → ℕ → ℕ → ℕ → List ℤ → Type 0
SampleCall numbers side w old = Called (sample_verdict numbers side w) (sample_point numbers (side_at side) w) old

abbrev pub TriangleCall : List ℤ → ℕ → ℕ → List ℤ → ℕ → ℕ → ℕ → List ℤ → Type 0
TriangleCall numbers side N old = Called (triangle_verdict numbers side N (length old)) (begins (triangle_samples numbers (side_at side) N) old) old

-- the tangents at one sample
abbrev pub TangentsAtCall : List ℤ → ℕ → Weights → List ℤ → ℕ → ℕ → ℕ → List ℤ → Type 0
TangentsAtCall numbers side w old = Called (sample_verdict numbers side w) (tangent_pair numbers (side_at side) w) old

-- those of a range of corners, with a lent list and a lent length
pub record TangentsCall (M : Mesh) (links levels : List ℕ) (first count : ℕ) (old : List ℤ) (lent before r after : ℕ) (out : List ℤ) (told : ℕ) : Type 0 where
  pub answers : States (tangent_verdict M links first count levels (length old)) before r after
  pub holds : out ≡ kept (tangent_verdict M links first count levels (length old)) (begins (tangent_list M levels first count) old) old
  pub tells : told ≡ kept (tangent_verdict M links first count levels (length old)) (length (tangent_list M levels first count)) lent

-- the triangles of a range: what stands behind `point_numbers` and `triangle_numbers`
pub record Sizes : Type 0 where
  pub points : ℕ
  pub triangles : ℕ

abbrev pub sizes : ℕ → ℕ → Sizes
sizes points triangles = record { points = points; triangles = triangles }

abbrev pub sizes_of : Mesh → List ℕ → ℕ → ℕ → Sizes
sizes_of M levels first count = sizes (length (point_list M levels first count)) (length (triangle_list M levels first count))

pub record CountTrianglesCall (M : Mesh) (links levels : List ℕ) (first count : ℕ) (lent : Sizes) (before r after : ℕ) (told : Sizes) : Type 0 where
  pub answers : States (level_verdict M links first count levels) before r after
  pub tells : told ≡ kept (level_verdict M links first count levels) (sizes_of M levels first count) lent

-- filling them, with room for so many numbers of points and of triangles
abbrev pub fill_verdict : Mesh → List ℕ → List ℕ → ℕ → ℕ → ℕ → ℕ → Verdict
fill_verdict M links levels first count room space = level_verdict M links first count levels or_else triangle_room M levels first count room space

pub record TrianglesCall (M : Mesh) (links levels : List ℕ) (first count : ℕ) (old : List ℤ) (old' : List ℕ) (lent : Sizes) (before r after : ℕ)
    (points : List ℤ) (triangles : List ℕ) (told : Sizes) : Type 0 where
  pub answers : States (fill_verdict M links levels first count (length old) (length old')) before r after
  pub points_hold : points ≡ kept (fill_verdict M links levels first count (length old) (length old')) (begins (point_list M levels first count) old) old
  pub triangles_hold : triangles ≡ kept (fill_verdict M links levels first count (length old) (length old')) (begins (triangle_list M levels first count) old') old'
  pub tells : told ≡ kept (fill_verdict M links levels first count (length old) (length old')) (sizes_of M levels first count) lent

-- turning faces, with the lent corner list and sharpness list, a lent listing and a lent count
pub record TurnCall (M : Mesh) (old : List ℕ) (count before r after : ℕ) (lists : Mesh) (out : List ℕ) (told : ℕ) : Type 0 where
  pub answers : States (turn_verdict M (length old)) before r after
  pub holds : lists ≡ kept (turn_verdict M (length old)) (turned_mesh M (turns_of M)) M
  pub listing_holds : out ≡ kept (turn_verdict M (length old)) (begins (turned_faces M) old) old
  pub tells : told ≡ kept (turn_verdict M (length old)) (length (turned_faces M)) count

-- a page behind `page`, as its 21 numbers in their order: meshes, corners, borders, refusals 1 to 13, refusals 28, the four misses
abbrev pub page_in : List ℕ → Page
page_in numbers =
    page_with (get_or numbers 0 0) (get_or numbers 1 0) (get_or numbers 2 0) (values_from (λ l. get_or numbers (3 + l) 0) 0 lines)
    (values_from (λ j. get_or numbers (3 + lines + j) 0) 0 conditions)

abbrev pub ReportCall : Offered → List ℕ → ℕ → ℕ → ℕ → List ℕ → Type 0
ReportCall F old = Called (page_verdict (page_in old)) (numbers_on (added (page_in old) (mesh_in F) (verdict_in F))) old

abbrev pub MergeCall : List ℕ → List ℕ → ℕ → ℕ → ℕ → List ℕ → Type 0
MergeCall other old = Called (merge_verdict (page_in old) (page_in other)) (numbers_on (merged (page_in old) (page_in other))) old
