-- The parts of the reading, as laws over lists: a fault among the needed words, words that are left over, and lists that are read whole.
use mathlib.Core.Path.{◌≡◌, refl, sym, ap, ◌∙◌}
use mathlib.Core.Bool.{true, false}
use mathlib.Core.List.{List}
use Prim.Native.Nat.{ℕ, zero, suc, ◌+◌, ◌*◌}
use native.Mathlib.Omega.{arith}
use lib.Dec.{ltb}
use lib.ListN.{length, take}
use lib.IntN.{ℤ}
use Rattle.std.specs.Prelude.{Ok, Err}
use Rattle.mesh.proofs.Links.{values_length}
use Rattle.mesh.proofs.Verdicts.{single_hit, single_miss, or_else_fault, or_else_sound, refusing}
use Rattle.paper.specs.Faults.{sound, fault, Told}
use Rattle.paper.specs.declared.Refusal.{Refusal}
use Rattle.paper.specs.Off.{words_of, coordinate, value_at, vertices, faces, faces_start, face_after, words_end}
use Rattle.paper.specs.Off.{needed_verdict, sides_from, words_mesh, fault26}
use Rattle.off_words.specs.declared.Cursor.{Cursor}
use Rattle.off_lists.specs.Reading.{HeaderRead, ListRead, FacesRead, read_verdict, WordsRead}
use Rattle.off_lists.specs.declared.Header.{Header}
use Rattle.off_lists.specs.declared.ReadFaces.{ReadFaces}

sides_length : (words : List (List ℕ)) (p n : ℕ) → length (sides_from words p n) ≡ n
unfolding sides_from
sides_length words p zero = refl
sides_length words p (suc n) = ap suc (sides_length words (face_after words p) n)

-- a fault among the needed words
needed_refused : (text : List ℕ) (coordinates : List ℤ) (sides corners : List ℕ) (d : Refusal)
    → needed_verdict (words_of text) ≡ fault d.number d.place → WordsRead text (Err d) coordinates sides corners
unfolding read_verdict
needed_refused text coordinates sides corners d e = record { answers = sym (or_else_fault d.number d.place _ e); lists = tt }

pub header_refused : (text : List ℕ) (d : Refusal) → HeaderRead text (Err d) → (coordinates : List ℤ) (sides corners : List ℕ)
    → WordsRead text (Err d) coordinates sides corners
unfolding needed_verdict
header_refused text d e coordinates sides corners =
    needed_refused text coordinates sides corners d (or_else_fault d.number d.place _ (sym e.answers))

module _ (text : List ℕ) (h : Header) (eh : HeaderRead text (Ok h)) (coordinates : List ℤ) (sides corners : List ℕ) (old : List ℤ) where
  count_is : 3 * h.vertices ≡ 3 * vertices (words_of text)
  count_is = ap (λ (n : ℕ). 3 * n) eh.there.vertices_are

  coordinates_read : (r : Told Cursor) → ListRead text coordinate (value_at (words_of text) coordinate) h.next.word (3 * h.vertices) 0 old coordinates r
      → ListRead text coordinate (value_at (words_of text) coordinate) 4 (3 * vertices (words_of text)) 0 old coordinates r
  coordinates_read r e = rw (eh.there.next.number, count_is) at e

  pub vertices_refused : (d : Refusal)
      → ListRead text coordinate (value_at (words_of text) coordinate) h.next.word (3 * h.vertices) 0 old coordinates (Err d)
      → WordsRead text (Err d) coordinates sides corners
  unfolding needed_verdict
  vertices_refused d e =
      needed_refused text coordinates sides corners d
      (or_else_sound _ (sym eh.answers) ∙ or_else_fault d.number d.place _ (sym (coordinates_read (Err d) e).answers))

  module _ (x : Cursor) (ex : ListRead text coordinate (value_at (words_of text) coordinate) h.next.word (3 * h.vertices) 0 old coordinates (Ok x))
      (old-sides old-corners : List ℕ) where
    numbers : ListRead text coordinate (value_at (words_of text) coordinate) 4 (3 * vertices (words_of text)) 0 old coordinates (Ok x)
    numbers = coordinates_read (Ok x) ex

    faces_read : (r : Told ReadFaces) → FacesRead text x.word h.faces old-sides old-corners r sides corners
        → FacesRead text (faces_start (words_of text)) (faces (words_of text)) old-sides old-corners r sides corners
    faces_read r e = rw (numbers.next.number, eh.there.faces_are) at e

    pub faces_refused : (d : Refusal) → FacesRead text x.word h.faces old-sides old-corners (Err d) sides corners
        → WordsRead text (Err d) coordinates sides corners
    unfolding needed_verdict
    faces_refused d e =
        needed_refused text coordinates sides corners d
        (or_else_sound _ (sym eh.answers) ∙ or_else_sound _ (sym numbers.answers) ∙ sym (faces_read (Err d) e).answers)

    module _ (f : ReadFaces) (ef : FacesRead text x.word h.faces old-sides old-corners (Ok f) sides corners) where
      all : FacesRead text (faces_start (words_of text)) (faces (words_of text)) old-sides old-corners (Ok f) sides corners
      all = faces_read (Ok f) ef

      needed_sound : needed_verdict (words_of text) ≡ sound
      unfolding needed_verdict
      needed_sound = or_else_sound _ (sym eh.answers) ∙ or_else_sound _ (sym numbers.answers) ∙ sym all.answers

      end_is : f.next.word ≡ words_end (words_of text)
      unfolding words_end
      end_is = all.there.next.number

      pub more_refused : ltb f.next.word (length (words_of text)) ≡ true → WordsRead text (refusing 26 f.next.word) coordinates sides corners
      unfolding read_verdict fault26
      more_refused e =
          let v = or_else_sound _ needed_sound ∙ single_hit 26 _ (ap (λ (n : ℕ). ltb n (length (words_of text))) (sym end_is) ∙ e)
          ∙ ap (fault 26) (sym end_is) in
          record { answers = sym v; lists = tt }

      pub words_done : ltb f.next.word (length (words_of text)) ≡ false
          → WordsRead text (Ok (record { coordinates = 3 * h.vertices; sides = h.faces; corners = f.corners; sharpness = 0 })) coordinates sides corners
      unfolding read_verdict fault26 words_mesh
      words_done e =
          record {
            answers = sym (or_else_sound _ needed_sound ∙ single_miss 26 _ (ap (λ (n : ℕ). ltb n (length (words_of text))) (sym end_is) ∙ e));
            lists = record {
              coordinates_count = count_is ∙ sym (values_length _ 4 (3 * vertices (words_of text)));
              sides_count = eh.there.faces_are ∙ sym (sides_length (words_of text) (faces_start (words_of text)) (faces (words_of text)));
              corners_count = all.there.corners_count;
              coordinates_hold = λ l. ap (λ (n : ℕ). take n coordinates) (all_of count_is)
                  ∙ numbers.stored.holds (omega (arith, count_is, numbers.stored.same));
              sides_hold = λ l. ap (λ (n : ℕ). take n sides) eh.there.faces_are
                  ∙ all.there.sides_hold (omega (arith, eh.there.faces_are, all.there.sides_same));
              corners_hold = λ l. all.there.corners_hold (omega (arith, all.there.corners_same));
              plain_pairs = refl;
            };
          }
        where
          all_of : {a b : ℕ} → a ≡ b → a ≡ 0 + b
          all_of q = omega arith
