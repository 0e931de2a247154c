-- A wrapped call's answer, as number and place; a list copied into the beginning of a lent one.
use mathlib.Core.Path.{◌≡◌, refl, sym, ap, ◌∙◌}
use mathlib.Core.Bool.{true, false, ◌||◌}
use mathlib.Core.List.{List}
use Prim.Native.Nat.{ℕ, ◌+◌, ◌≤◌}
use native.Mathlib.Omega.{arith}
use lib.Dec.{ltb}
use lib.ListN.{length}
use lib.IntN.{ℤ}
use lib.Ieee.{Float}
use borrow.Author.Tests.{ltb-false}
use Rattle.mesh.proofs.Links.{values_length}
use Rattle.mesh.proofs.Ranges.{none_left, none_right}
use Rattle.mesh.proofs.Verdicts.{or_else_fault, or_else_sound, single_hit, single_miss}
use Rattle.paper.specs.Mesh.{Mesh, mesh_of, four, lengths_of, most_sides}
use Rattle.paper.specs.Faults.{Verdict, sound, fault, verdict, stated, Answered, Answer, Told}
use Rattle.paper.specs.Counts.{vertices_with, faces_with, for_each}
use Rattle.paper.specs.File.{file_verdict, file_mesh, begins, no_room, FileSurveyed, DecodedTo}
use Rattle.paper.specs.Floats.{point_verdict, InFloats}
use Rattle.paper.specs.CFace.{States, Called, DecodeCall, counts_of, survey_verdict, SurveyCall, put, laid, pairs_of}
use Rattle.paper.specs.Irregular.{SearchCase, case_of, face_found, vertex_found, none_found, search_refused, irregular_stated, Searched}
use Rattle.paper.specs.CFace.{OffCall, FloatsCall, Finding, finding, finding_of, IrregularCall, PreviewCall}
use Rattle.paper.specs.Off.{text_mesh, OffRead}
use Rattle.paper.specs.Preview.{move_of, Previewed}
use Rattle.paper.specs.CFace.{TurnCall, Sizes, sizes, CountTrianglesCall, TrianglesCall}
use Rattle.paper.specs.Triangles.{point_list, triangle_list, Triangulated, TrianglesCounted}
use Rattle.paper.specs.Floats.{AllInFloats}
use Rattle.paper.specs.CFace.{FloatsAllCall, TangentsCall}
use Rattle.paper.specs.Tangents.{tangent_list, TangentsFilled}
use Rattle.paper.specs.Turning.{turned_faces, TurnedTo}
use Rattle.paper.specs.declared.Counts.{Counts}
use Rattle.paper.specs.declared.Floats.{Floats}
use Rattle.std.specs.Prelude.{Some, None, Ok, Err}
use Rattle.std.proofs.lemmas.Result.{IfOk-at_ok}
use Rattle.paper.specs.declared.FloatPoint.{FloatPoint}
use Rattle.paper.specs.declared.FloatPoint.TheVariants.{Near, Far}
use Rattle.paper.specs.declared.Irregular.{Irregular}
use Rattle.paper.specs.declared.Irregular.TheVariants.{Face, Vertex}
use Rattle.paper.specs.declared.Refusal.{Refusal}
use Rattle.irregular.proofs.Laws.{verdict_of, verdict_is}
use Rattle.floats.proofs.Theorems.{near_sound, far_sound, refused_fault}
use Rattle.paper.specs.declared.Lengths.{Lengths}
use Rattle.paper.specs.declared.Search.{Search}
use Rattle.paper.specs.declared.Triangles.{Triangles}

-- nothing is refused
done : {before : ℕ} → States sound before 0 before
done = record { number = refl; place = refl }

-- the verdict v that the answer r states
module _ {A : Type 0} (v : Verdict) (r : Told A) (before : ℕ) (e : stated r ≡ v) where
  pub states_done : (x : A) → r ≡ Ok x → States v before 0 before
  states_done x d = record { number = cc; place = cc }

  pub states_refused : (refusal : Refusal) (m q : ℕ) → r ≡ Err refusal → States (fault refusal.number refusal.place) before m q → States v before m q
  states_refused refusal m q d s = record { number = cc; place = cc }

-- what is told of an answer, where the call states that answer
pub told : (v : Verdict) (r : Answer) (before : ℕ) → stated r ≡ v → (n after : ℕ) → States (stated r) before n after → States v before n after
told v r before e n after s = rw e at s

-- ---- a call that fills one lent space, told in C
pub called : {A : Type 0} (v : Verdict) (new old : A) (r : Answer) (out : A) (before n after : ℕ) → Answered v new old r out
    → States (stated r) before n after → Called v new old before n after out
called v new old r out before n after k s = record { answers = told v r before k.answers n after s; holds = rw k.answers at k.holds }

-- the coordinates as they come from C
pub preview_call : (M : Mesh) (u : ℕ) (x y z x' y' z' : ℤ) → x' ≡ x → y' ≡ y → z' ≡ z → (links : List ℕ) (first count : ℕ) (old : List ℤ) (r : Answer)
    (out : List ℤ) (before n after : ℕ) → Previewed M (move_of u x' y' z') links first count old r out → States (stated r) before n after
    → PreviewCall M (move_of u x y z) links first count old before n after out
preview_call M u x y z x' y' z' ex ey ez links first count old r out before n after p s =
    called _ _ _ r out before n after (rw (ex, ey, ez) at p) s

pub floats_all_call : (numbers : List ℤ) (old : List Float) (r : Answer) (out : List Float) (before n after : ℕ)
    → AllInFloats numbers old r out → States (stated r) before n after → FloatsAllCall numbers old before n after out
floats_all_call numbers old r out before n after k s = record {
  answers = told _ r before k.answers n after s;
  holds = rw k.answers at k.holds;
  exact = λ e. k.exact (k.answers ∙ e);
}

-- ---- calls that fill more: what each space holds and what is told, after `done` and after a refusal
-- decoding
module _ (file : List ℕ) (counted : ℕ) (cs : List ℤ) (sides corners sharpness : List ℕ) (r : Told Lengths)
    (cs' : List ℤ) (sides' corners' sharpness' : List ℕ) (lengths : Lengths) (before : ℕ)
    (d : DecodedTo file counted (mesh_of cs sides corners sharpness) r (mesh_of cs' sides' corners' sharpness')) where
  abbrev lent : Mesh
  lent = mesh_of cs sides corners sharpness

  abbrev lists : Mesh
  lists = mesh_of cs' sides' corners' sharpness'

  pub decode_done : (l : Lengths) → r ≡ Ok l → DecodeCall file counted lent lengths before 0 before lists (four l.coordinates l.sides l.corners l.sharpness)
  decode_done l e =
      let k = IfOk-at_ok (λ m. m ≡ lengths_of (file_mesh file)) e d.lengths in
      record { answers = states_done _ _ before d.answers l e; holds = cc; tells = cc }

  pub decode_refused : (refusal : Refusal) (m q : ℕ) → r ≡ Err refusal → States (fault refusal.number refusal.place) before m q
      → DecodeCall file counted lent lengths before m q lists lengths
  decode_refused refusal m q e s = record { answers = states_refused _ _ before d.answers refusal m q e s; holds = cc; tells = cc }

-- reading OFF
module _ (text : List ℕ) (lent : Mesh) (r : Told Lengths) (lists : Mesh) (lengths : Lengths) (before : ℕ) (d : OffRead text lent r lists) where
  pub off_done : (l : Lengths) → r ≡ Ok l → OffCall text lent lengths before 0 before lists (four l.coordinates l.sides l.corners l.sharpness)
  off_done l e =
      let k = IfOk-at_ok (λ m. m ≡ lengths_of (text_mesh text)) e d.lengths in
      record { answers = states_done _ _ before d.answers l e; holds = cc; tells = cc }

  pub off_refused : (refusal : Refusal) (m q : ℕ) → r ≡ Err refusal → States (fault refusal.number refusal.place) before m q → OffCall text lent lengths before m q lists lengths
  off_refused refusal m q e s = record { answers = states_refused _ _ before d.answers refusal m q e s; holds = cc; tells = cc }

-- turning faces
module _ (M : Mesh) (old : List ℕ) (r : Told ℕ) (lists : Mesh) (out : List ℕ) (count before : ℕ) (t : TurnedTo M old r lists out) where
  pub turn_done : (n : ℕ) → r ≡ Ok n → TurnCall M old count before 0 before lists out n
  turn_done n e =
      let k = IfOk-at_ok (λ m. m ≡ length (turned_faces M)) e t.counts in
      record { answers = states_done _ _ before t.answers n e; holds = cc; listing_holds = cc; tells = cc }

  pub turn_refused : (refusal : Refusal) (m q : ℕ) → r ≡ Err refusal → States (fault refusal.number refusal.place) before m q → TurnCall M old count before m q lists out count
  turn_refused refusal m q e s = record { answers = states_refused _ _ before t.answers refusal m q e s; holds = cc; listing_holds = cc; tells = cc }

-- triangles
module _ (M : Mesh) (links levels : List ℕ) (first count : ℕ) (r : Told Triangles) (lent : Sizes) (before : ℕ) (t : TrianglesCounted M links levels first count r) where
  pub counted_done : (n : Triangles) → r ≡ Ok n → CountTrianglesCall M links levels first count lent before 0 before (sizes n.points n.triangles)
  counted_done n e =
      let k = IfOk-at_ok (λ (m : Triangles). (m.points ≡ length (point_list M levels first count)) × (m.triangles ≡ length (triangle_list M levels first count))) e t.lengths in
      record { answers = states_done _ _ before t.answers n e; tells = cc (k.0, k.1) }

  pub counted_refused : (refusal : Refusal) (m q : ℕ) → r ≡ Err refusal → States (fault refusal.number refusal.place) before m q → CountTrianglesCall M links levels first count lent before m q lent
  counted_refused refusal m q e s = record { answers = states_refused _ _ before t.answers refusal m q e s; tells = cc }

module _ (M : Mesh) (links levels : List ℕ) (first count : ℕ) (old : List ℤ) (old' : List ℕ) (r : Told Triangles) (points : List ℤ) (triangles : List ℕ) (lent : Sizes)
    (before : ℕ) (t : Triangulated M links levels first count old old' r points triangles) where
  pub triangles_done : (n : Triangles) → r ≡ Ok n
      → TrianglesCall M links levels first count old old' lent before 0 before points triangles (sizes n.points n.triangles)
  triangles_done n e =
      let k = IfOk-at_ok (λ (m : Triangles). (m.points ≡ length (point_list M levels first count)) × (m.triangles ≡ length (triangle_list M levels first count))) e t.lengths in
      record { answers = states_done _ _ before t.answers n e; points_hold = cc; triangles_hold = cc; tells = cc (k.0, k.1) }

  pub triangles_refused : (refusal : Refusal) (m q : ℕ) → r ≡ Err refusal → States (fault refusal.number refusal.place) before m q
      → TrianglesCall M links levels first count old old' lent before m q points triangles lent
  triangles_refused refusal m q e s =
      record { answers = states_refused _ _ before t.answers refusal m q e s; points_hold = cc; triangles_hold = cc; tells = cc }

-- tangents
module _ (M : Mesh) (links levels : List ℕ) (first count : ℕ) (old : List ℤ) (r : Told ℕ) (out : List ℤ) (lent before : ℕ)
    (t : TangentsFilled M links levels first count old r out) where
  pub tangents_done : (n : ℕ) → r ≡ Ok n → TangentsCall M links levels first count old lent before 0 before out n
  tangents_done n e =
      let k = IfOk-at_ok (λ m. m ≡ length (tangent_list M levels first count)) e t.numbers_are in
      record { answers = states_done _ _ before t.answers n e; holds = cc; tells = cc }

  pub tangents_refused : (refusal : Refusal) (m q : ℕ) → r ≡ Err refusal → States (fault refusal.number refusal.place) before m q
      → TangentsCall M links levels first count old lent before m q out lent
  tangents_refused refusal m q e s = record { answers = states_refused _ _ before t.answers refusal m q e s; holds = cc; tells = cc }

-- ---- surveying
-- both lent lists have room for a list with a number for each m
module _ (l : List ℕ) (a b : ℕ) (e : length l ≡ most_sides + 1) (t : (ltb a (most_sides + 1) || ltb b (most_sides + 1)) ≡ false) where
  pub fits_first : length l ≤ a
  fits_first = omega (arith, e, ltb-false a (most_sides + 1) (none_left (ltb a (most_sides + 1)) (ltb b (most_sides + 1)) t))

  pub fits_second : length l ≤ b
  fits_second = omega (arith, e, ltb-false b (most_sides + 1) (none_right (ltb a (most_sides + 1)) (ltb b (most_sides + 1)) t))

-- the counts of a file that passes have a number for each m
pub numbered : (file : List ℕ) (counted : ℕ) (counts : Counts) → FileSurveyed file counted (Ok counts)
    → (length counts.cornered ≡ most_sides + 1) × (length counts.sided ≡ most_sides + 1)
unfolding for_each
numbered file counted counts s =
    let k = s.counts in
    let M = file_mesh file in
    (ap length k.cornered ∙ values_length (vertices_with M) 0 (most_sides + 1), ap length k.sided ∙ values_length (faces_with M) 0 (most_sides + 1))

module _ (file : List ℕ) (counted : ℕ) (lent : Counts) (before : ℕ) where
  refuses : (n p m q : ℕ) → survey_verdict file counted lent ≡ fault n p → States (fault n p) before m q → SurveyCall file counted lent before m q lent
  refuses n p m q v s = record { answers = rw (← v) at s; holds = cc }

  pub survey_refused : (refusal : Refusal) (m q : ℕ) → FileSurveyed file counted (Err refusal) → States (fault refusal.number refusal.place) before m q
      → SurveyCall file counted lent before m q lent
  unfolding survey_verdict
  survey_refused refusal m q s t = refuses refusal.number refusal.place m q (or_else_fault refusal.number refusal.place _ (sym s.answers)) t

  module _ (counts : Counts) (s : FileSurveyed file counted (Ok counts)) where
    passes : file_verdict file counted ≡ sound
    passes = sym s.answers

    pub survey_no_room : (m q : ℕ) → (ltb (length lent.cornered) (most_sides + 1) || ltb (length lent.sided) (most_sides + 1)) ≡ true
        → States (fault no_room (most_sides + 1)) before m q → SurveyCall file counted lent before m q lent
    unfolding survey_verdict
    survey_no_room m q t s = refuses no_room (most_sides + 1) m q (or_else_sound _ passes ∙ single_hit no_room (most_sides + 1) t) s

    pub survey_done : (ltb (length lent.cornered) (most_sides + 1) || ltb (length lent.sided) (most_sides + 1)) ≡ false
        → (told : Counts) → told ≡ counts_of counts.vertices counts.faces counts.corners (begins counts.cornered lent.cornered) (begins counts.sided lent.sided)
        → SurveyCall file counted lent before 0 before told
    unfolding survey_verdict
    survey_done t told e =
        let v : survey_verdict file counted lent ≡ sound = or_else_sound _ passes ∙ single_miss no_room (most_sides + 1) t in
        let k = s.counts in
        record { answers = record { number = cc; place = cc }; holds = cc }

-- ---- floats
module _ (numbers : List ℤ) (point : ℕ) (old : List Float) (pairs before : ℕ) where
  -- the point p that is answered, and the verdict v
  laid_out : (p : Told FloatPoint) (v : Verdict) (m q : ℕ) → InFloats numbers point p → point_verdict numbers point ≡ v → States v before m q
      → FloatsCall numbers point old pairs before m q (laid p old) (pairs_of p pairs)
  laid_out p v m q k e s = record { answers = rw (← e) at s; point_is = p; pointed = k; holds = refl; tells = refl }

  pub floats_near : (p : Floats) → InFloats numbers point (Ok (Near p)) → FloatsCall numbers point old pairs before 0 before (put 0 p old) 0
  floats_near p k = laid_out _ sound 0 before k (near_sound numbers point p k) done

  pub floats_far : (p q : Floats) → InFloats numbers point (Ok (Far p q)) → FloatsCall numbers point old pairs before 0 before (put 3 q (put 0 p old)) 1
  floats_far p q k = laid_out _ sound 0 before k (far_sound numbers point p q k) done

  pub floats_refused : (refusal : Refusal) (m q : ℕ) → InFloats numbers point (Err refusal) → States (fault refusal.number refusal.place) before m q
      → FloatsCall numbers point old pairs before m q old pairs
  floats_refused refusal m q k s = laid_out _ (fault refusal.number refusal.place) m q k (refused_fault numbers point refusal k) s

-- ---- an irregular face or vertex
module _ (M : Mesh) (lent : Finding) (before : ℕ) where
  -- the case s that is answered, and its verdict v
  irregular_call : (r : Told Search) → Searched M r → (s : SearchCase) (v : Verdict) (m q : ℕ) → irregular_stated r ≡ s → verdict_of s ≡ v → States v before m q
      → IrregularCall M lent before m q (finding_of s lent)
  irregular_call r c s v m q e f t =
      let w : verdict_of s ≡ verdict M = ap verdict_of (sym e) ∙ verdict_is M r c in
      record { answers = rw (sym f ∙ w) at t; tells = ap (λ (t : SearchCase). finding_of t lent) (sym e ∙ c.answers) }

  module _ (s : Search) (c : Searched M (Ok s)) where
    pub face_call : (f : ℕ) (i : Irregular) → s.found ≡ Some i → i ≡ Face f → IrregularCall M lent before 0 before (finding 1 f s.read)
    face_call f i e q = irregular_call (Ok s) c (face_found f s.read) sound 0 before (ap (λ x. case_of x s.read) (e ∙ ap Some q)) refl done

    pub vertex_call : (u : ℕ) (i : Irregular) → s.found ≡ Some i → i ≡ Vertex u → IrregularCall M lent before 0 before (finding 2 u s.read)
    vertex_call u i e q = irregular_call (Ok s) c (vertex_found u s.read) sound 0 before (ap (λ x. case_of x s.read) (e ∙ ap Some q)) refl done

    pub none_call : s.found ≡ None → IrregularCall M lent before 0 before (finding 0 0 s.read)
    none_call e = irregular_call (Ok s) c (none_found s.read) sound 0 before (ap (λ x. case_of x s.read) e) refl done

  pub irregular_refused : (r : Refusal) (m q : ℕ) → Searched M (Err r) → States (fault r.number r.place) before m q → IrregularCall M lent before m q lent
  irregular_refused r m q c s = irregular_call (Err r) c (search_refused r.number r.place) (fault r.number r.place) m q refl refl s
