-- The answer agrees with the lines of `inspect`. A number of sides other than 4 stands among the faces exactly when a line other than 4's
-- counts faces, since all numbers of sides have a line; so for the vertices.
use mathlib.Core.Path.{◌≡◌, refl, sym, ap, ◌∙◌}
use mathlib.Core.Bool.{Bool, true, false, not, ◌&&◌}
use mathlib.Core.List.{List}
use Prim.Native.Nat.{ℕ, ◌+◌, ◌<◌, ◌≤◌}
use native.Mathlib.Omega.{arith}
use lib.Dec.{ltb, eqb}
use lib.ListN.{get_or}
use borrow.Author.Tests.{eqb-true, eq-eqb, ne_eqb, lt-ltb, not-false}
use Rattle.paper.specs.Scan.{first_below, some_below, count_below}
use Rattle.paper.specs.Mesh.{most_sides, Mesh, vertex_count, face_count}
use Rattle.paper.specs.Links.{valence}
use Rattle.paper.specs.Faults.{Verdict, sound, Accepted, Told}
use Rattle.paper.specs.Counts.{vertices_with, faces_with, for_each, Counted}
use Rattle.paper.specs.File.{file_mesh, file_verdict}
use Rattle.paper.specs.Claims.{LinesAgree}
use Rattle.paper.specs.declared.Counts.{Counts}
use Rattle.mesh.proofs.Scans.{clash, and_true, some_true, some_false, some_below_lem, some_passes, none}
use Rattle.mesh.proofs.ByCases.{by_test, by_equal, by_less}
use Rattle.mesh.proofs.Links.{values_at}
use Rattle.mesh.proofs.Rings.{count_none, none_counted}
use Rattle.mesh.proofs.Verdicts.{sound_right}
use Rattle.mesh.proofs.Accepted.{sound_of, sides_within, valence_within}
use Rattle.paper.specs.declared.Irregular.TheVariants.{Face, Vertex}
use Rattle.paper.specs.declared.Irregular.{Irregular}
use Rattle.std.specs.Prelude.{Option, Some, None, Ok, Err}
use Rattle.paper.specs.Irregular.{irregular_face, irregular_vertex, face_found, vertex_found}
use Rattle.paper.specs.Irregular.{none_found, case_of, irregular_stated, pick_case, lowest_face}
use Rattle.paper.specs.Irregular.{lowest_vertex, found, search_unless, irregular_of, Searched, other_line, counts_faces, counts_vertices, is_face, is_vertex, Agreed}
use Rattle.paper.specs.declared.Search.{Search}

and_none : (a : Bool) → a && false ≡ false
and_none true = refl
and_none false = refl

-- ---- n numbers, none above the most sides: one is not 4 exactly when one of the counts, other than 4's, is above 0
module _ (n : ℕ) (v : ℕ → ℕ) (most : (j : ℕ) → j < n → v j ≤ most_sides) where
  abbrev counted : ℕ → ℕ
  counted m = count_below n (λ j. eqb (v j) m)

  abbrev odd : ℕ → Bool
  odd j = not (eqb (v j) 4)

  abbrev line : ℕ → Bool
  line = other_line (for_each counted)

  counts_at : (m : ℕ) → m < most_sides + 1 → get_or (for_each counted) m 0 ≡ counted m
  unfolding for_each
  counts_at m h = values_at counted 0 0 (most_sides + 1) m h ∙ ap counted (let q : 0 + m ≡ m = omega arith in q)

  above : (m j : ℕ) → j < n → v j ≡ m → 0 < counted m
  above m j h e =
      by_less 0 (counted m) (λ z. z)
      (λ z. absurd (clash (eq-eqb (v j) m e) (none_counted (λ i. eqb (v i) m) n (omega (arith, z)) j h)))

  four : some_below n odd ≡ false → (j : ℕ) → j < n → v j ≡ 4
  four e j h = eqb-true (v j) 4 (not-false (eqb (v j) 4) (none n odd e j h))

  -- a number that is not 4 has its line
  some_line : some_below n odd ≡ true → some_below (most_sides + 1) line ≡ true
  some_line e =
      let j = first_below n odd in
      let h = some_below_lem n odd e in
      let l : v j < most_sides + 1 = omega (arith, most j h) in
      some_true (most_sides + 1) line (v j) l
      (and_true (odd j) (ltb 0 (get_or (for_each counted) (v j) 0)) (some_passes n odd e)
      (rw (counts_at (v j) l) (lt-ltb 0 (counted (v j)) (above (v j) j h refl))))

  -- where all are 4, no other line counts anything
  no_line : some_below n odd ≡ false → some_below (most_sides + 1) line ≡ false
  no_line e =
      some_false (most_sides + 1) line (λ m l.
      by_equal m 4
      (λ q. rw (eq-eqb m 4 q))
      (λ q. ap (λ (k : ℕ). not (eqb m 4) && ltb 0 k)
      (counts_at m l ∙ count_none (λ j. eqb (v j) m) n (λ j h. ne_eqb (v j) m (λ w. q (sym w ∙ four e j h))))
      ∙ and_none (not (eqb m 4))))

  pub same_lines : some_below n odd ≡ some_below (most_sides + 1) line
  same_lines = by_test (some_below n odd) (λ e. e ∙ sym (some_line e)) (λ e. e ∙ sym (no_line e))

-- ---- what is answered, by what it states: a search by two tests
case_is : (o : Option Irregular) (a b : Bool) (read f i u j k : ℕ) → case_of o read ≡ pick_case a (face_found f i) (pick_case b (vertex_found u j) (none_found k))
    → (is_face o ≡ a) × (a ≡ false → is_vertex o ≡ b)
case_is (Some (Face g)) true b read f i u j k e = (cc, λ q. cc)
case_is (Some (Face g)) false true read f i u j k e = (cc, λ q. cc)
case_is (Some (Face g)) false false read f i u j k e = (cc, λ q. cc)
case_is (Some (Vertex v)) true b read f i u j k e = (cc, λ q. cc)
case_is (Some (Vertex v)) false true read f i u j k e = (cc, λ q. cc)
case_is (Some (Vertex v)) false false read f i u j k e = (cc, λ q. cc)
case_is None true b read f i u j k e = (cc, λ q. cc)
case_is None false true read f i u j k e = (cc, λ q. cc)
case_is None false false read f i u j k e = (cc, λ q. cc)

found_is : (r : Told Search) (a b : Bool) (f i u j k : ℕ) → irregular_stated r ≡ pick_case a (face_found f i) (pick_case b (vertex_found u j) (none_found k))
    → (s : Search) × (r ≡ Ok s) × (is_face s.found ≡ a) × (a ≡ false → is_vertex s.found ≡ b)
found_is (Ok s) a b f i u j k e = let is = case_is s.found a b s.read f i u j k e in (s, refl, is.0, is.1)
found_is (Err refusal) true b f i u j k e = cc
found_is (Err refusal) false true f i u j k e = cc
found_is (Err refusal) false false f i u j k e = cc

-- ---- of an accepted mesh
module _ (M : Mesh) (lines : Counts) (r : Told Search) (accepted : Accepted M) (counts : Counted M lines) (call : Searched M r) where
  abbrev faces : Bool
  faces = some_below (face_count M) (irregular_face M.sides)

  abbrev vertices : Bool
  vertices = some_below (vertex_count M) (irregular_vertex M.corners)

  answered : (s : Search) × (r ≡ Ok s) × (is_face s.found ≡ faces) × (faces ≡ false → is_vertex s.found ≡ vertices)
  unfolding irregular_of found
  answered =
      found_is r faces vertices (lowest_face M) (lowest_face M + 1) (lowest_vertex M) (face_count M) (face_count M)
      (call.answers ∙ ap (λ (v : Verdict). search_unless v (found M)) accepted)

  faces_line : faces ≡ counts_faces lines
  unfolding irregular_face counts_faces faces_with
  faces_line =
      same_lines (face_count M) (λ f. get_or M.sides f 0) (λ f h. (sides_within M.sides f ((sound_of M accepted).five f h)).1)
      ∙ ap (λ (l : List ℕ). some_below (most_sides + 1) (other_line l)) (sym counts.sided)

  vertices_line : vertices ≡ counts_vertices lines
  unfolding irregular_vertex counts_vertices vertices_with
  vertices_line =
      same_lines (vertex_count M) (valence M.corners) (λ u h. (valence_within M.corners u ((sound_of M accepted).twelve u h)).1)
      ∙ ap (λ (l : List ℕ). some_below (most_sides + 1) (other_line l)) (sym counts.cornered)

  pub agreed : (s : Search) × (r ≡ Ok s) × Agreed lines s.found
  agreed =
      (answered.0, answered.1, record { faces = answered.2 ∙ faces_line; vertices = λ e. answered.3 (faces_line ∙ e) ∙ vertices_line })

-- ---- of a file that `inspect` does not refuse
pub lines_agree : LinesAgree
unfolding file_verdict
lines_agree file counted counts r survey call =
    let e : file_verdict file counted ≡ sound = sym survey.answers in
    agreed (file_mesh file) counts r (sound_right _ _ e) survey.counts call
