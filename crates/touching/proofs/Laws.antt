-- Marks one corner and one face further; a vertex stands with u in some face exactly when u touches its corners; the ways out.
use mathlib.Core.Path.{◌≡◌, refl, sym, ap, ◌∙◌, subst}
use mathlib.Core.Bool.{Bool, true, false, not, ◌&&◌, ◌||◌}
use mathlib.Core.List.{List}
use Prim.Native.Nat.{ℕ, ◌+◌, ◌-◌, ◌<◌, ◌≤◌}
use native.Mathlib.Omega.{arith}
use lib.Dec.{eqb}
use lib.ListN.{length, get_or, set, replicate, get_or-replicate}
use Rattle.std.proofs.Common.{zero-add}
use lib.Seq.{get_or-set_same, get_or-set_other, ext_get_or}
use borrow.Author.Tests.{eqb-true, eq-eqb, ne_eqb, le-leb, lt-leb}
use Rattle.paper.specs.Scan.{pick_n, first_below, some_below}
use Rattle.paper.specs.Mesh.{most_vertices, Mesh, vertex_count, corner_count}
use Rattle.paper.specs.Corners.{sum_of, face_of, start_of}
use Rattle.paper.specs.Links.{vertex_of, names}
use Rattle.paper.specs.Faults.{sound, verdict, stated, Accepted, Answer, done}
use Rattle.paper.specs.File.{no_room}
use Rattle.paper.specs.Preview.{fault29, vertex_verdict, has_vertex, touches_at, touch_marks, touched_verdict, Touched}
use Rattle.mesh.specs.Tables.{Named}
use Rattle.mesh.proofs.Scans.{and_true, and_left, and_right, some_true, some_false, some_below_lem, some_passes, none, fails_step}
use Rattle.mesh.proofs.ByCases.{by_test, by_equal, true_both}
use Rattle.mesh.proofs.Faces.{OfFace, held, face_at, start_ends}
use Rattle.mesh.proofs.Links.{values_length, values_at}
use Rattle.mesh.proofs.Verdicts.{or_else_fault, or_else_sound, single_hit, single_miss, refusing}
use Rattle.mesh.proofs.Accepted.{sound_of, few_vertices, sums_of}
use Rattle.face_sums.specs.Sums.{FacesWithin}
use Rattle.face_sums.proofs.Parts.{part, part_length, part_at}
use Rattle.refine.proofs.Accepted.{faces_of_lem, vertex_in}
use Rattle.touching.specs.Sharing.{among, AllMarked, FaceMarked, in_face, SharingMarked}

-- ---- scans, one number longer
or_none : (b : Bool) → (b || false) ≡ b
or_none true = refl
or_none false = refl

or_some : (b : Bool) → (b || true) ≡ true
or_some true = refl
or_some false = refl

some_step : (n : ℕ) (f : ℕ → Bool) → some_below (n + 1) f ≡ (some_below n f || f n)
some_step n f =
    by_test (some_below n f)
    (λ e. rw e (some_true (n + 1) f (first_below n f) (omega (arith, some_below_lem n f e)) (some_passes n f e)))
    (λ e. rw e (by_test (f n)
    (λ q. rw q (some_true (n + 1) f n (omega arith) q))
    (λ q. rw q (some_false (n + 1) f (fails_step f n (none n f e) q)))))

some_same : (n : ℕ) (f g : ℕ → Bool) → ((j : ℕ) → j < n → f j ≡ g j) → some_below n f ≡ some_below n g
some_same n f g h =
    by_test (some_below n f)
    (λ e. let l = some_below_lem n f e in e ∙ sym (some_true n g (first_below n f) l (sym (h _ l) ∙ some_passes n f e)))
    (λ e. e ∙ sym (some_false n g (λ j l. sym (h j l) ∙ none n f e j l)))

pick_or : (a b : Bool) (x : ℕ) → pick_n (a || b) 1 x ≡ pick_n b 1 (pick_n a 1 x)
pick_or true true x = refl
pick_or true false x = refl
pick_or false true x = refl
pick_or false false x = refl

-- ---- among n corners
pub among_none : (corners : List ℕ) (start w : ℕ) → among corners start 0 w ≡ false
unfolding among
among_none corners start w = some_false 0 _ (λ j h. absurd (omega arith))

among_step : (corners : List ℕ) (start n w : ℕ) → among corners start (n + 1) w ≡ (among corners start n w || names corners w (start + n))
unfolding among
among_step corners start n w = some_step n (λ j. names corners w (start + j))

-- of a face's own list of corners, which is a part of the list of all
module _ (corners : List ℕ) (start n end : ℕ) (e : end ≡ start + n) (fits : end ≤ length corners) where
  abbrev own : List ℕ
  own = part corners start n end e fits

  among_part : (w : ℕ) → among own 0 (length own) w ≡ among corners start n w
  unfolding among names
  among_part w =
      rw (part_length corners start n end e fits)
      (some_same n (λ j. names own w (0 + j)) (λ j. names corners w (start + j))
      (λ j h. ap (λ (v : ℕ). eqb v w) (ap (vertex_of own) (zero-add j) ∙ part_at corners start n end e fits j h)))

  pub face_part : (u : ℕ) (before after : List ℕ) → FaceMarked own u 0 (length own) before after → FaceMarked corners u start n before after
  face_part u before after m w h = rw (← among_part u, ← among_part w) (m w h)

-- one corner further
module _ (corners : List ℕ) (start n u : ℕ) where
  pub found_here : vertex_of corners (start + n) ≡ u → true ≡ among corners start (n + 1) u
  unfolding names
  found_here e = rw (among_step corners start n u, eq-eqb (vertex_of corners (start + n)) u e) (sym (or_some (among corners start n u)))

  pub found_not : (vertex_of corners (start + n) ≡ u → ⊥) → {r : Bool} → r ≡ among corners start n u → r ≡ among corners start (n + 1) u
  unfolding names
  found_not e q = rw (among_step corners start n u, ne_eqb (vertex_of corners (start + n)) u e) (q ∙ sym (or_none (among corners start n u)))

-- ---- one mark more
mark_set : (sharing : List ℕ) (u w : ℕ) → u < length sharing → get_or (set sharing u 1) w 0 ≡ pick_n (eqb u w) 1 (get_or sharing w 0)
mark_set sharing u w h =
    by_equal u w
    (λ q. rw (eq-eqb u w q) (ap (λ (k : ℕ). get_or (set sharing u 1) k 0) (sym q) ∙ get_or-set_same sharing u 1 0 h))
    (λ q. rw (ne_eqb u w q) (get_or-set_other sharing u w 1 0 (λ e. q (sym e))))

pub all_none : (corners : List ℕ) (start : ℕ) (sharing : List ℕ) → AllMarked corners start 0 sharing sharing
all_none corners start sharing w h = sym (ap (λ (b : Bool). pick_n b 1 (get_or sharing w 0)) (among_none corners start w))

pub all_step : (corners : List ℕ) (start n : ℕ) (before sharing : List ℕ) → length sharing ≡ length before → vertex_of corners (start + n) < length sharing
    → AllMarked corners start n before sharing → AllMarked corners start (n + 1) before (set sharing (vertex_of corners (start + n)) 1)
unfolding names
all_step corners start n before sharing e h m w l =
    let u = vertex_of corners (start + n) in
    mark_set sharing u w h
    ∙ ap (pick_n (eqb u w) 1) (m w l)
    ∙ sym (pick_or (among corners start n w) (eqb u w) (get_or before w 0))
    ∙ sym (ap (λ (b : Bool). pick_n b 1 (get_or before w 0)) (among_step corners start n w))

-- ---- a face: it has u, or not
module _ (corners : List ℕ) (u start n : ℕ) (before : List ℕ) where
  pub face_has : (after : List ℕ) → among corners start n u ≡ true → AllMarked corners start n before after → FaceMarked corners u start n before after
  face_has after e m w h = m w h ∙ sym (ap (λ (b : Bool). pick_n (b && among corners start n w) 1 (get_or before w 0)) e)

  pub face_has_not : among corners start n u ≡ false → FaceMarked corners u start n before before
  face_has_not e w h = sym (ap (λ (b : Bool). pick_n (b && among corners start n w) 1 (get_or before w 0)) e)

-- ---- the faces, one by one
module _ (sides corners : List ℕ) (u : ℕ) where
  pub sharing_none : (sharing : List ℕ) → sharing ≡ replicate (length sharing) 0 → SharingMarked sides corners u 0 sharing
  sharing_none sharing z w h =
      ap (λ (l : List ℕ). get_or l w 0) z ∙ get_or-replicate (length sharing) w 0 0 h
      ∙ sym (ap (λ (b : Bool). pick_n b 1 0) (some_false 0 (in_face sides corners u w) (λ j k. absurd (omega arith))))

  pub sharing_step : (f : ℕ) (before after : List ℕ) → length after ≡ length before → SharingMarked sides corners u f before
      → FaceMarked corners u (start_of sides f) (get_or sides f 0) before after → SharingMarked sides corners u (f + 1) after
  unfolding in_face
  sharing_step f before after e m k w h =
      let l : w < length before = omega arith in
      k w l
      ∙ ap (pick_n (in_face sides corners u w f) 1) (m w l)
      ∙ sym (pick_or (some_below f (in_face sides corners u w)) (in_face sides corners u w f) 0)
      ∙ sym (ap (λ (b : Bool). pick_n b 1 0) (some_step f (in_face sides corners u w)))

-- ---- a vertex stands with u in some face exactly when u touches its corners
module _ (sides corners : List ℕ) (sums : sum_of sides ≡ length corners) (u w : ℕ) where
  abbrev together : ℕ → Bool
  together = in_face sides corners u w

  -- a corner d of face g at the vertex v
  record Spot (g v d : ℕ) : Type 0 where
    inside : d < length corners
    at : names corners v d ≡ true
    of : face_of sides d ≡ g

  spot : (g : ℕ) → g < length sides → (v : ℕ) → among corners (start_of sides g) (get_or sides g 0) v ≡ true
      → Spot g v (start_of sides g + first_below (get_or sides g 0) (λ j. names corners v (start_of sides g + j)))
  unfolding among
  spot g h v e =
      let i = some_below_lem (get_or sides g 0) (λ j. names corners v (start_of sides g + j)) e in
      record {
        inside = omega (arith, i, start_ends sides g h, sums);
        at = some_passes (get_or sides g 0) (λ j. names corners v (start_of sides g + j)) e;
        of = face_at sides g _ (omega arith) (omega (arith, i)) h;
      }

  -- corner d of face g is among its corners
  among_at : (v d g : ℕ) → OfFace sides d g → names corners v d ≡ true → among corners (start_of sides g) (get_or sides g 0) v ≡ true
  unfolding among
  among_at v d g k e =
      let q : start_of sides g + (d - start_of sides g) ≡ d = omega (arith, k.from) in
      some_true (get_or sides g 0) (λ j. names corners v (start_of sides g + j)) (d - start_of sides g) (omega (arith, k.from, k.to))
      (subst (λ (x : ℕ). names corners v x ≡ true) (sym q) e)

  touches_of : some_below (length sides) together ≡ true → touches_at sides corners u w ≡ true
  unfolding in_face touches_at has_vertex
  touches_of e =
      let g = first_below (length sides) together in
      let h = some_below_lem (length sides) together e in
      let p = some_passes (length sides) together e in
      let du = spot g h u (and_left _ _ p) in
      let dw = spot g h w (and_right (among corners (start_of sides g) (get_or sides g 0) u) _ p) in
      some_true (length corners) _ _ dw.inside (and_true _ _ dw.at
      (some_true (length corners) _ _ du.inside (and_true _ _ (eq-eqb _ _ (du.of ∙ sym dw.of)) du.at)))

  of_touches : touches_at sides corners u w ≡ true → some_below (length sides) together ≡ true
  unfolding in_face touches_at has_vertex
  of_touches e =
      let at : ℕ → Bool = λ d. names corners w d && has_vertex sides corners u d in
      let d = first_below (length corners) at in
      let hd = some_below_lem (length corners) at e in
      let p = some_passes (length corners) at e in
      let pw = and_left _ _ p in
      let pv : has_vertex sides corners u d ≡ true = and_right (names corners w d) _ p in
      let with-u : ℕ → Bool = λ x. eqb (face_of sides x) (face_of sides d) && names corners u x in
      let x = first_below (length corners) with-u in
      let hx = some_below_lem (length corners) with-u pv in
      let q = some_passes (length corners) with-u pv in
      let face : face_of sides x ≡ face_of sides d = eqb-true _ _ (and_left _ _ q) in
      let g = face_of sides d in
      let kd = held sides d (omega (arith, hd, sums)) in
      let kx : OfFace sides x g = subst (OfFace sides x) face (held sides x (omega (arith, hx, sums))) in
      some_true (length sides) together g kd.exists
      (and_true _ _ (among_at u x g kx (and_right (eqb (face_of sides x) (face_of sides d)) _ q)) (among_at w d g kd pw))

  pub together_is : some_below (length sides) together ≡ touches_at sides corners u w
  together_is = true_both _ _ touches_of of_touches

-- ---- each corner has the mark of its vertex
module _ (corners sharing : List ℕ) where
  -- the corners below c
  abbrev pub MarksCopied : List ℕ → ℕ → Type 0
  MarksCopied marks c = (d : ℕ) → d < c → get_or marks d 0 ≡ get_or sharing (vertex_of corners d) 0

module _ (sides corners : List ℕ) (u : ℕ) where
  marks_length : length (touch_marks sides corners u) ≡ length corners
  unfolding touch_marks
  marks_length = values_length (λ c. pick_n (touches_at sides corners u (vertex_of corners c)) 1 0) 0 (length corners)

  pub marks_at : (c : ℕ) → c < length corners → get_or (touch_marks sides corners u) c 0 ≡ pick_n (touches_at sides corners u (vertex_of corners c)) 1 0
  unfolding touch_marks
  marks_at c h =
      values_at (λ c. pick_n (touches_at sides corners u (vertex_of corners c)) 1 0) 0 0 (length corners) c h
      ∙ ap (λ (d : ℕ). pick_n (touches_at sides corners u (vertex_of corners d)) 1 0) (let q : 0 + c ≡ c = omega arith in q)

  pub marks_are : sum_of sides ≡ length corners → (sharing marks : List ℕ) → SharingMarked sides corners u (length sides) sharing → Named corners (length sharing)
      → length marks ≡ length corners → MarksCopied corners sharing marks (length corners) → marks ≡ touch_marks sides corners u
  marks_are sums sharing marks m named l k =
      ext_get_or 0 marks (touch_marks sides corners u) (l ∙ sym marks_length)
      (λ c h. let b : c < length corners = omega arith in
      k c b ∙ m (vertex_of corners c) (named c b)
      ∙ ap (λ (t : Bool). pick_n t 1 0) (together_is sides corners sums u (vertex_of corners c)) ∙ sym (marks_at c b))

-- ---- what an accepted mesh gives to the marking
module _ (M : Mesh) (a : Accepted M) where
  pub sums : sum_of M.sides ≡ length M.corners
  sums = sums_of M.sides (corner_count M) (sound_of M a).six

  pub names_few : Named M.corners most_vertices
  names_few c h = omega (arith, vertex_in M a c h, few_vertices _ _ _ (sound_of M a).four)

  pub faces : FacesWithin M.sides
  faces = faces_of_lem M a

-- ---- the ways out
module _ (M : Mesh) (u : ℕ) (old : List ℕ) where
  pub touched_none : vertex_count M ≤ u → Touched M u old (refusing 29 u) old
  unfolding touched_verdict fault29
  touched_none h = record { answers = sym (or_else_fault 29 u _ (single_hit 29 u (le-leb _ _ h))); holds = refl }

  module _ (h : u < vertex_count M) where
    passes : vertex_verdict M u ≡ sound
    unfolding fault29
    passes = single_miss 29 u (lt-leb _ _ h)

    pub touched_refused : {a : Answer} {k p : ℕ} → stated a ≡ verdict M → a ≡ refusing k p → Touched M u old (refusing k p) old
    unfolding touched_verdict
    touched_refused {k = k} {p = p} e q =
        record { answers = sym (or_else_sound _ passes ∙ or_else_fault k p _ (sym e ∙ ap stated q)); holds = refl }

    module _ (a : Accepted M) where
      pub touched_no_room : (length old ≡ corner_count M → ⊥) → Touched M u old (refusing no_room (corner_count M)) old
      unfolding touched_verdict
      touched_no_room n =
          record {
            answers =
                sym (or_else_sound _ passes ∙ or_else_sound _ a ∙ single_hit no_room (corner_count M) (ap not (ne_eqb (length old) (corner_count M) n)));
            holds = refl;
          }

      pub touched_done : length old ≡ corner_count M → {out : List ℕ} → out ≡ touch_marks M.sides M.corners u → Touched M u old done out
      unfolding touched_verdict
      touched_done e m =
          record {
            answers =
                sym (or_else_sound _ passes ∙ or_else_sound _ a ∙ single_miss no_room (corner_count M) (ap not (eq-eqb (length old) (corner_count M) e)));
            holds = m;
          }
