-- A row of words read into an own list: what the loops keep, and what they end with.
use mathlib.Core.Path.{◌≡◌, refl, sym, ap, ◌∙◌}
use mathlib.Core.Bool.{false}
use mathlib.Core.List.{List, [], append-nil, append_assoc}
use Prim.Native.Nat.{ℕ, suc, ◌+◌, ◌-◌, ◌<◌}
use native.Mathlib.Omega.{arith}
use native.Mathlib.Numerals.{add-one}
use lib.IntN.{ℤ}
use lib.ListN.{get_or, take, set, length-set}
use lib.Seq.{take-suc-set}
use Rattle.mesh.proofs.Fills.{values_snoc}
use Rattle.std.specs.Prelude.{Ok, Err}
use Rattle.mesh.proofs.Verdicts.{single_hit, refusing}
use Rattle.paper.specs.Scan.{values_from}
use Rattle.paper.specs.Faults.{fault, single}
use Rattle.paper.specs.declared.Refusal.{Refusal}
use Rattle.paper.specs.Off.{Kind, coordinate, vertex_number, words_of, is_number, value_of, bad, value_at, natural_at, bad_from}
use Rattle.off_words.specs.Cursor.{Before, NumberThere}
use Rattle.off_words.specs.declared.Number.{Number}
use Rattle.off_words.specs.declared.Cursor.{Cursor}
use Rattle.off_lists.specs.Reading.{Stored, ListRead, NaturalRead}
use Rattle.off_lists.specs.declared.Natural.{Natural}
use Rattle.off_lists.proofs.Bad.{no_number, serves, value_is, left_stop, left_step, left_none}
use Rattle.off_lists.proofs.Naturals.{word_good, natural_at_lem}

module _ {A : Type 0} (f : ℕ → A) (p at : ℕ) (old : List A) where
  pub stored_none : Stored f p 0 at old old
  unfolding values_from
  stored_none =
      record {
        same = refl;
        holds = λ h. let q : at + 0 ≡ at = omega arith in ap (λ (k : ℕ). take k old) q ∙ sym (append-nil (take at old));
      }

  pub stored_step : (i : ℕ) (new : List A) (v : A) → v ≡ f (p + i) → Stored f p i at old new → Stored f p (i + 1) at old (set new (at + i) v)
  stored_step i new v e s =
      record {
        same = length-set new (at + i) v ∙ s.same;
        holds = λ h.
            let q : at + (i + 1) ≡ suc (at + i) = omega arith in
            rw (q, add-one i, take-suc-set new (at + i) v (omega (arith, s.same)), s.holds (omega arith), values_snoc, append_assoc, e);
      }

module _ {A : Type 0} (text : List ℕ) (kind : Kind) (f : ℕ → A) (p n at : ℕ) (old : List A) where
  -- i of the n words are read
  pub record Reading (new : List A) (i : ℕ) (next : Cursor) : Type 0 where
    pub before : Before text (p + i) next
    pub rest : bad_from (words_of text) kind p n ≡ bad_from (words_of text) kind (p + i) (n - i)
    pub stored : Stored f p i at old new

  pub reading_none : (c : Cursor) → Before text p c → Reading old 0 c
  reading_none c b =
      let q : p + 0 ≡ p = omega arith in
      let r : n - 0 ≡ n = omega arith in
      record { before = rw q b; rest = rw (q, r); stored = stored_none f p at old }

  module _ (new : List A) (i : ℕ) (next : Cursor) (r : Reading new i next) where
    pub reading_step : i < n → bad (words_of text) kind (p + i) ≡ false → (v : A) → v ≡ f (p + i) → (after : Cursor) → Before text (p + i + 1) after
        → Reading (set new (at + i) v) (i + 1) after
    reading_step h e v q after b =
        let z : p + i + 1 ≡ p + (i + 1) = omega arith in
        record {
          before = rw z at b;
          rest = r.rest ∙ left_step (words_of text) kind p n i h e;
          stored = stored_step f p at old i new v q r.stored;
        }

    pub reading_stop : i < n → (d : Refusal) → fault d.number d.place ≡ single 25 (bad (words_of text) kind (p + i)) (p + i)
        → ListRead text kind f p n at old new (Err d)
    reading_stop h d e = record { answers = sym (r.rest ∙ left_stop (words_of text) kind p n i h d.number d.place e); next = tt; stored = tt }

    pub reading_all : i ≡ n → ListRead text kind f p n at old new (Ok next)
    reading_all q = record { answers = sym (r.rest ∙ left_none (words_of text) kind p n i q); next = rw q at r.before; stored = rw q at r.stored }

-- ---- coordinates
module _ (text : List ℕ) (p n : ℕ) (old new : List ℤ) (i : ℕ) (next : Cursor)
    (r : Reading text coordinate (value_at (words_of text) coordinate) p n 0 old new i next) (h : i < n) where
  word : get_or (words_of text) next.word [] ≡ get_or (words_of text) (p + i) []
  word = ap (λ (k : ℕ). get_or (words_of text) k []) r.before.number

  pub coordinate_stop : is_number (get_or (words_of text) next.word []) ≡ false
      → ListRead text coordinate (value_at (words_of text) coordinate) p n 0 old new (refusing 25 next.word)
  coordinate_stop e =
      let b = no_number (words_of text) (p + i) coordinate (ap is_number (sym word) ∙ e) in
      reading_stop text coordinate _ p n 0 old new i next r h (record { number = 25; place = next.word })
      (ap (fault 25) r.before.number ∙ sym (single_hit 25 (p + i) b))

  module _ (m : Number) (e : NumberThere text next.word m) where
    good : bad (words_of text) coordinate (p + i) ≡ false
    good = serves (words_of text) (p + i) coordinate (ap is_number (sym word) ∙ e.is) refl

    pub coordinate_step : (z : ℤ) → z ≡ m.value → (put : List ℤ) → put ≡ set new i z
        → Reading text coordinate (value_at (words_of text) coordinate) p n 0 old put (i + 1) m.next
    coordinate_step z q put w =
        let x : 0 + i ≡ i = omega arith in
        let v : z ≡ value_at (words_of text) coordinate (p + i) = q ∙ e.value ∙ ap value_of word ∙ sym (value_is (words_of text) (p + i) coordinate good) in
        let b : Before text (p + i + 1) m.next = rw r.before.number at e.next in
        rw w (rw x at (reading_step text coordinate _ p n 0 old new i next r h good z v m.next b))

-- ---- corners
module _ (text : List ℕ) (p n at : ℕ) (old new : List ℕ) (i : ℕ) (next : Cursor)
    (r : Reading text vertex_number (natural_at (words_of text) vertex_number) p n at old new i next) (h : i < n) where
  pub corner_stop : (d : Refusal) → NaturalRead text next.word 65535 (Err d)
      → ListRead text vertex_number (natural_at (words_of text) vertex_number) p n at old new (Err d)
  corner_stop d e =
      let one = natural_at_lem text (p + i) next.word 65535 (Err d) r.before.number e in
      reading_stop text vertex_number _ p n at old new i next r h d one.answers

  pub corner_step : (m : Natural) → NaturalRead text next.word 65535 (Ok m) → (put : List ℕ) → put ≡ set new (at + i) m.value
      → Reading text vertex_number (natural_at (words_of text) vertex_number) p n at old put (i + 1) m.next
  corner_step m e put w =
      let one = natural_at_lem text (p + i) next.word 65535 (Ok m) r.before.number e in
      rw w (reading_step text vertex_number _ p n at old new i next r h (word_good (p + i) _ one.answers) m.value one.there.value m.next one.there.next)
