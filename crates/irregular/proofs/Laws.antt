-- The ways out of the search, as laws over a mesh; and what an accepted mesh gives to the counting of corners.
use mathlib.Core.Path.{◌≡◌, refl, ap, ◌∙◌, sym}
use mathlib.Core.Bool.{Bool, true, false, not}
use mathlib.Core.List.{List}
use Prim.Native.Nat.{ℕ, ◌+◌, ◌*◌, ◌<◌, ◌≤◌}
use native.Mathlib.Omega.{arith}
use lib.ListN.{length, replicate, length-replicate}
use borrow.Author.Tests.{eq-eqb, ne_eqb}
use Rattle.paper.specs.Scan.{first_below, some_below}
use Rattle.paper.specs.Mesh.{most_vertices, most_corners, Mesh, vertex_count, face_count, corner_count}
use Rattle.paper.specs.Links.{valence}
use Rattle.paper.specs.Faults.{Verdict, sound, fault, verdict, stated, Accepted, Answer, Told}
use Rattle.mesh.specs.Tables.{Named}
use Rattle.mesh.proofs.Scans.{some_below_lem}
use Rattle.mesh.proofs.Accepted.{sound_of, few_vertices, few_corners, named_of}
use Rattle.walk.proofs.Table.{blank}
use Rattle.checks.specs.columns.Vertices.{vertex_row, count_here}
use Rattle.checks.specs.columns.Filled.{Countable}
use Rattle.paper.specs.declared.Irregular.TheVariants.{Face, Vertex}
use Rattle.paper.specs.Irregular.{irregular_face, irregular_vertex, SearchCase, face_found, vertex_found}
use Rattle.paper.specs.Irregular.{none_found, search_refused, irregular_stated, pick_case, lowest_face, lowest_vertex, found, search_unless, irregular_of, Searched}
use Rattle.irregular.specs.Found.{lowest_if}
use Rattle.irregular.proofs.Scanned.{position_lowest}
use Rattle.std.specs.List.{position}
use lib.Dec.{eqb}
use Rattle.paper.specs.declared.Refusal.{Refusal}
use Rattle.std.specs.Prelude.{Option, Some, None, Ok, Err, cond, MatchOption, IsSomeAnd}
use Rattle.paper.specs.declared.Irregular.{Irregular}
use Rattle.paper.specs.declared.Search.{Search}

-- ---- the lowest face, by the list; the test of a vertex, as the code makes it
pub face_found_lem : (sides : List ℕ) → position (λ n. not (eqb n 4)) sides ≡ lowest_if (length sides) (irregular_face sides)
unfolding irregular_face
face_found_lem sides = position_lowest (λ n. not (eqb n 4)) sides 0

module _ (corners : List ℕ) (u n : ℕ) (e : n ≡ valence corners u) where
  pub vertex_odd : (n ≡ 4 → ⊥) → irregular_vertex corners u ≡ true
  unfolding irregular_vertex
  vertex_odd h = ap not (ne_eqb (valence corners u) 4 (λ q. h (e ∙ q)))

  pub vertex_square : n ≡ 4 → irregular_vertex corners u ≡ false
  unfolding irregular_vertex
  vertex_square h = ap not (eq-eqb (valence corners u) 4 (sym e ∙ h))

-- ---- a table of zeros with a row for every vertex
pub countable : (corners : List ℕ) (count : ℕ) → count ≤ most_vertices → length corners ≤ most_corners → Named corners count
    → Countable corners (replicate (vertex_row * most_vertices) 0)
countable corners count few small named =
    record {
      small = small;
      rowed = λ c h. rw (length-replicate {A = ℕ} (vertex_row * most_vertices) 0) (omega (arith, named c h));
      clear = λ u. blank (vertex_row * most_vertices) (vertex_row * u + count_here);
    }

module _ (M : Mesh) (accepted : Accepted M) where
  pub few_enough : (vertex_count M ≤ most_vertices) × (corner_count M ≤ most_corners) × Named M.corners (vertex_count M)
  few_enough =
      let s = sound_of M accepted in
      (few_vertices _ _ _ s.four, few_corners _ _ _ s.four, λ c h. named_of (vertex_count M) M.corners c (s.eight c h))

-- ---- what the checks say, of what is answered: nothing where the search has an answer
abbrev pub verdict_of : SearchCase → Verdict
verdict_of (face_found f read) = sound
verdict_of (vertex_found u read) = sound
verdict_of (none_found read) = sound
verdict_of (search_refused number place) = fault number place

picked_sound : (a b : Bool) (f i u j k : ℕ) → verdict_of (pick_case a (face_found f i) (pick_case b (vertex_found u j) (none_found k))) ≡ sound
picked_sound true b f i u j k = refl
picked_sound false true f i u j k = refl
picked_sound false false f i u j k = refl

found_sound : (M : Mesh) → verdict_of (found M) ≡ sound
unfolding found
found_sound M =
    picked_sound (some_below (face_count M) (irregular_face M.sides)) (some_below (vertex_count M) (irregular_vertex M.corners))
    (lowest_face M) (lowest_face M + 1) (lowest_vertex M) (face_count M) (face_count M)

after_checks : (v : Verdict) (s : SearchCase) → verdict_of s ≡ sound → verdict_of (search_unless v s) ≡ v
after_checks sound s e = e
after_checks (fault number place) s e = refl

pub verdict_is : (M : Mesh) (r : Told Search) → Searched M r → verdict_of (irregular_stated r) ≡ verdict M
unfolding irregular_of
verdict_is M r c = ap verdict_of c.answers ∙ after_checks (verdict M) (found M) (found_sound M)

-- ---- refused
pub search_refused_lem : (M : Mesh) {a : Answer} (r : Refusal) → stated a ≡ verdict M → a ≡ Err r → Searched M (Err r)
unfolding irregular_of
search_refused_lem M r e q = record { answers = sym (ap (λ (v : Verdict). search_unless v (found M)) (sym e ∙ ap stated q)) }

-- ---- what a search says of the two scans
some_is : (b : Bool) (at x : ℕ) → cond b (Some at) None ≡ Some x → (b ≡ true) × (at ≡ x)
some_is true at x e = (refl, cc)
some_is false at x e = cc

none_is : (b : Bool) (at : ℕ) → cond b (Some at) None ≡ None → b ≡ false
none_is true at e = cc
none_is false at e = refl

pub lowest_within : (n : ℕ) (f : ℕ → Bool) (x : ℕ) → lowest_if n f ≡ Some x → x < n
lowest_within n f x e = let s = some_is (some_below n f) (first_below n f) x e in omega (arith, some_below_lem n f s.0, s.1)

-- ---- an accepted mesh: a face; a vertex, where there is no face; neither
module _ (M : Mesh) (accepted : Accepted M) where
  is_found : irregular_of M ≡ found M
  unfolding irregular_of
  is_found = ap (λ (v : Verdict). search_unless v (found M)) accepted

  pub search_face : (f : ℕ) → lowest_if (face_count M) (irregular_face M.sides) ≡ Some f → Searched M (Ok (record { found = Some (Face f); read = f + 1 }))
  unfolding found
  search_face f e = let s = some_is _ _ f e in record { answers = sym (is_found ∙ rw (s.0, s.1)) }

  module _ (n : lowest_if (face_count M) (irregular_face M.sides) ≡ None) where
    pub search_vertex : (o : Option ℕ) → o ≡ lowest_if (vertex_count M) (irregular_vertex M.corners) → (r : Option Irregular)
        → MatchOption o (r ≡ None) (λ u. IsSomeAnd r (λ y. y ≡ Vertex u)) → Searched M (Ok (record { found = r; read = face_count M }))
    unfolding found
    search_vertex None e r q = record { answers = rw q (sym (is_found ∙ rw (none_is _ _ n, none_is _ _ (sym e)))) }
    search_vertex (Some u) e None q = elim q [ ]
    search_vertex (Some u) e (Some y) q = let s = some_is _ _ u (sym e) in record { answers = rw q (sym (is_found ∙ rw (none_is _ _ n, s.0, s.1))) }
