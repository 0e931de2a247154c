-- Faces read one after the other: what the loop keeps, and what it ends with.
use mathlib.Core.Path.{◌≡◌, refl, sym, ap, ◌∙◌, subst}
use Rattle.std.specs.Prelude.{Ok, Err}
use mathlib.Core.List.{List, [], ◌∷◌, ◌++◌, append-nil, append_assoc}
use Prim.Native.Nat.{ℕ, ◌+◌, ◌-◌, ◌*◌, ◌<◌, ◌≤◌}
use native.Mathlib.Omega.{arith}
use native.Mathlib.Numerals.{add-one}
use lib.ListN.{length, take, set, length-set, length-append}
use lib.Seq.{append_snoc, take-suc-set}
use Rattle.mesh.proofs.Verdicts.{or_else_fault, or_else_sound, or_else_assoc}
use Rattle.mesh.proofs.Links.{values_length}
use Rattle.paper.specs.Scan.{values_from}
use Rattle.paper.specs.Faults.{sound, ◌or_else◌, Told}
use Rattle.paper.specs.declared.Refusal.{Refusal}
use Rattle.paper.specs.Off.{words_of, bad_from, side_count, vertex_number, natural_at, sides_at, face_after, end_from, bad_faces, sides_from, corners_from}
use Rattle.off_words.specs.Cursor.{Before}
use Rattle.off_words.specs.declared.Cursor.{Cursor}
use Rattle.off_lists.specs.Reading.{NaturalRead, Stored, ListRead, FaceRead, FacesRead}
use Rattle.off_lists.specs.declared.Natural.{Natural}
use Rattle.off_lists.specs.declared.ReadFace.{ReadFace}
use Rattle.off_lists.proofs.Bad.{one_is, suc_left}

-- ---- one face
module _ (text : List ℕ) (c : Cursor) (face at : ℕ) (sides corners : List ℕ) where
  pub face_none : (d : Refusal) → NaturalRead text c.word 255 (Err d) → (sides' corners' : List ℕ)
      → FaceRead text c.word face at sides corners (Err d) sides' corners'
  face_none d e sides' corners' =
      let v = one_is (words_of text) side_count c.word ∙ or_else_fault d.number d.place sound (sym e.answers) in
      record { answers = sym (or_else_fault d.number d.place _ v); there = tt }

  module _ (sides' corners' : List ℕ) (m : Natural) (e : NaturalRead text c.word 255 (Ok m)) (put : sides' ≡ set sides face m.value)
      (r : Told Cursor)
      (l : ListRead text vertex_number (natural_at (words_of text) vertex_number) m.next.word m.value at corners corners' r) where
    list_here : ListRead text vertex_number (natural_at (words_of text) vertex_number) (c.word + 1) (sides_at (words_of text) c.word) at corners corners' r
    list_here = rw (e.there.next.number, e.there.value) at l

    good : bad_from (words_of text) side_count c.word 1 ≡ sound
    good = one_is (words_of text) side_count c.word ∙ or_else_sound sound (sym e.answers)

    side_put : Stored (λ q. sides_at (words_of text) c.word) c.word 1 face sides sides'
    unfolding values_from
    side_put =
        record {
          same = ap length put ∙ length-set sides face m.value;
          holds = λ h. rw (add-one, put, e.there.value) (take-suc-set sides face (sides_at (words_of text) c.word) (omega arith));
        }

    pub face_stop : (d : Refusal) → r ≡ Err d → FaceRead text c.word face at sides corners (Err d) sides' corners'
    face_stop d q =
        let h = rw q at list_here in
        record { answers = h.answers ∙ sym (or_else_sound _ good); there = tt }

    pub face_read : (next : Cursor) → r ≡ Ok next
        → FaceRead text c.word face at sides corners (Ok (record { next = next; sides = m.value })) sides' corners'
    face_read next q =
        let h = rw q at list_here in
        record {
          answers = h.answers ∙ sym (or_else_sound _ good);
          there = record { next = h.next; sides_are = e.there.value; within = e.there.within; side_stored = side_put; corners_stored = h.stored };
        }

-- ---- the loop
module _ (text : List ℕ) (p n : ℕ) (sides corners : List ℕ) where
  -- f of the n faces are read, with k corners
  pub record Facing (sides' corners' : List ℕ) (f k : ℕ) (next : Cursor) : Type 0 where
    pub before : Before text next.word next
    pub rest : bad_faces (words_of text) p n ≡ bad_faces (words_of text) next.word (n - f)
    pub ends : end_from (words_of text) p n ≡ end_from (words_of text) next.word (n - f)
    pub few : k ≤ 255 * f
    pub count : length (corners_from (words_of text) p n) ≡ k + length (corners_from (words_of text) next.word (n - f))
    pub sides_same : length sides' ≡ length sides
    pub corners_same : length corners' ≡ length corners
    pub sides_hold : f ≤ length sides → sides_from (words_of text) p n ≡ take f sides' ++ sides_from (words_of text) next.word (n - f)
    pub corners_hold : k ≤ length corners → corners_from (words_of text) p n ≡ take k corners' ++ corners_from (words_of text) next.word (n - f)

  pub facing_none : (c : Cursor) → c.word ≡ p → Before text c.word c → Facing sides corners 0 0 c
  facing_none c q b =
      let z : n - 0 ≡ n = omega arith in
      record {
        before = b;
        rest = rw (q, z);
        ends = rw (q, z);
        few = omega arith;
        count = rw (q, z) (omega arith);
        sides_same = refl;
        corners_same = refl;
        sides_hold = λ h. rw (q, z);
        corners_hold = λ h. rw (q, z);
      }

  module _ (sides' corners' : List ℕ) (f k : ℕ) (next : Cursor) (s : Facing sides' corners' f k next) (h : f < n) (sides'' corners'' : List ℕ) where
    faces_first : bad_faces (words_of text) next.word (n - f)
        ≡ (bad_from (words_of text) side_count next.word 1
        or_else bad_from (words_of text) vertex_number (next.word + 1) (sides_at (words_of text) next.word))
        or_else bad_faces (words_of text) (face_after (words_of text) next.word) (n - (f + 1))
    unfolding bad_faces
    faces_first = rw (suc_left n f h) (sym (or_else_assoc _ _ _))

    pub facing_stop : (d : Refusal) → FaceRead text next.word f k sides' corners' (Err d) sides'' corners''
        → FacesRead text p n sides corners (Err d) sides'' corners''
    facing_stop d e = record { answers = sym (s.rest ∙ faces_first ∙ or_else_fault d.number d.place _ (sym e.answers)); there = tt }

    module _ (r : ReadFace) (e : FaceRead text next.word f k sides' corners' (Ok r) sides'' corners'') where
      after : r.next.word ≡ face_after (words_of text) next.word
      after = e.there.next.number

      number : r.sides ≡ sides_at (words_of text) next.word
      number = e.there.sides_are

      here : List ℕ
      here = values_from (natural_at (words_of text) vertex_number) (next.word + 1) (sides_at (words_of text) next.word)

      here_length : length here ≡ r.sides
      unfolding here
      here_length = values_length _ _ _ ∙ sym number

      corners_split : corners_from (words_of text) next.word (n - f) ≡ here ++ corners_from (words_of text) r.next.word (n - (f + 1))
      unfolding here corners_from
      corners_split = rw (after, suc_left n f h)

      sides_split : sides_from (words_of text) next.word (n - f) ≡ r.sides ∷ sides_from (words_of text) r.next.word (n - (f + 1))
      unfolding sides_from
      sides_split = rw (after, number, suc_left n f h)

      sides_more : f + 1 ≤ length sides → take (f + 1) sides'' ≡ take f sides' ++ (r.sides ∷ [])
      unfolding values_from
      sides_more l = rw number (e.there.side_stored.holds (omega (arith, s.sides_same)))

      corners_more : k + r.sides ≤ length corners → take (k + r.sides) corners'' ≡ take k corners' ++ here
      unfolding here
      corners_more l = rw number (e.there.corners_stored.holds (omega (arith, s.corners_same, number)))

      pub facing_step : Facing sides'' corners'' (f + 1) (k + r.sides) r.next
      unfolding end_from
      facing_step =
          record {
            before = subst (λ (m : ℕ). Before text m r.next) (sym after) e.there.next;
            rest = s.rest ∙ faces_first ∙ or_else_sound _ (sym e.answers) ∙ rw after;
            ends = s.ends ∙ rw (after, suc_left n f h);
            few = omega (arith, s.few, e.there.within);
            count = omega (arith, s.count, simp (corners_split, length-append, here_length) at s.count);
            sides_same = e.there.side_stored.same ∙ s.sides_same;
            corners_same = e.there.corners_stored.same ∙ s.corners_same;
            sides_hold = λ l. s.sides_hold (omega arith) ∙ rw (sides_more l, append_snoc, sides_split);
            corners_hold = λ l. s.corners_hold (omega arith) ∙ rw (corners_more l, append_assoc, corners_split);
          }

  pub facing_all : (sides' corners' : List ℕ) (f k : ℕ) (next : Cursor) → Facing sides' corners' f k next → f ≡ n
      → FacesRead text p n sides corners (Ok (record { next = next; corners = k })) sides' corners'
  unfolding bad_faces end_from sides_from corners_from
  facing_all sides' corners' f k next s q =
      let z : n - f ≡ 0 = omega arith in
      record {
        answers = sym (rw z at s.rest);
        there = record {
          next = subst (λ (m : ℕ). Before text m next) (sym (rw z at s.ends)) s.before;
          corners_count = omega (arith, rw z at s.count);
          sides_same = s.sides_same;
          corners_same = s.corners_same;
          sides_hold = λ l. sym ((rw (z, append-nil) at (s.sides_hold (omega arith))) ∙ ap (λ (m : ℕ). take m sides') q);
          corners_hold = λ l. sym (rw (z, append-nil) at (s.corners_hold l));
        };
      }
