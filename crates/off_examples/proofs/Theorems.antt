-- L6's theorems. Words are read in order, so all words before one that is read are there, and a missing word's number is the number of words.
use mathlib.Core.Path.{◌≡◌, refl, sym, ap, ◌∙◌, subst}
use mathlib.Core.Bool.{Bool, true, false, not}
use mathlib.Core.List.{List, [], ◌∷◌}
use Prim.Native.Nat.{ℕ, zero, suc, ◌+◌, ◌*◌, ◌<◌, ◌≤◌}
use native.Mathlib.Omega.{arith}
use lib.Dec.{leb}
use lib.ListN.{length, length-append}
use borrow.Author.Tests.{ltb-false, leb-false, eq-eqb, not-false}
use Rattle.mesh.proofs.Scans.{clash}
use Rattle.mesh.proofs.Ranges.{none_left, none_right}
use Rattle.mesh.proofs.Links.{values_length}
use Rattle.mesh.proofs.Verdicts.{sound_left, sound_right, single_sound, unsound}
use Rattle.paper.specs.Scan.{values_from}
use Rattle.paper.specs.Mesh.{Mesh, lengths_of, corner_count}
use Rattle.paper.specs.Corners.{sum_of}
use Rattle.paper.specs.Faults.{Verdict, sound, fault, ◌or_else◌, single, lowest_of, fault6, list_faults, link_faults, verdict}
use Rattle.paper.specs.Off.{words_of, Kind, list_count, coordinate, side_count, vertex_number, bad, natural_at, vertices, faces, faces_start, sides_at, face_after}
use Rattle.paper.specs.Off.{end_from, words_end, bad_from, bad_faces, needed_verdict, sides_from, corners_from, words_mesh, is_off, short, fault24, fault26}
use Rattle.paper.specs.Off.{words_verdict, off_verdict}
use Rattle.paper.specs.Claims.{NoSix, MissingWord, WholeText}
use Rattle.paper.specs.declared.Lengths.{Lengths}

-- ---- the side counts sum to the corner count
sums : (words : List (List ℕ)) (p left : ℕ) → sum_of (sides_from words p left) ≡ length (corners_from words p left)
unfolding sides_from corners_from sum_of
sums words p zero = refl
sums words p (suc left) =
    let a = values_length (natural_at words vertex_number) (p + 1) (sides_at words p) in
    let b = length-append (values_from (natural_at words vertex_number) (p + 1) (sides_at words p)) (corners_from words (face_after words p) left) in
    omega (arith, a, b, sums words (face_after words p) left)

no_sum : (words : List (List ℕ)) → fault6 (words_mesh words).sides (corner_count (words_mesh words)) ≡ false
unfolding fault6 words_mesh
no_sum words = ap not (eq-eqb _ _ (sums words (faces_start words) (faces words)))

-- ---- what every fault of a verdict satisfies
module _ (Q : ℕ → ℕ → Type 0) where
  abbrev Only : Verdict → Type 0
  Only v = (k p : ℕ) → v ≡ fault k p → Q k p

  only_or : (v w : Verdict) → Only v → (v ≡ sound → Only w) → Only (v or_else w)
  unfolding ◌or_else◌
  only_or sound w a b = b refl
  only_or (fault k p) w a b = a

  only_fault : (k p : ℕ) → Q k p → Only (fault k p)
  only_fault k p q j r e =
      let a : k ≡ j = cc in let b : p ≡ r = cc in subst (λ (n : ℕ). Q n r) a (subst (λ (n : ℕ). Q k n) b q)

  only_single : (k : ℕ) (b : Bool) (p : ℕ) → Q k p → Only (single k b p)
  unfolding single
  only_single k true p q = only_fault k p q
  only_single k false p q = λ j r e. unsound j r (sym e)

  only_miss : (k : ℕ) (b : Bool) (p : ℕ) → b ≡ false → Only (single k b p)
  unfolding single
  only_miss k true p e = absurd (clash refl e)
  only_miss k false p e = λ j r f. unsound j r (sym f)

  only_lowest : (k n : ℕ) (f : ℕ → Bool) → ((p : ℕ) → Q k p) → Only (lowest_of k n f)
  unfolding lowest_of
  only_lowest k n f q = only_single k _ _ (q _)

  -- 4 to 13, 27 and 28, where 6 does not apply
  only_verdict : (M : Mesh) → fault6 M.sides (corner_count M) ≡ false → ((k p : ℕ) → (k ≡ 6 → ⊥) → (k ≡ 25 → ⊥) → Q k p) → Only (verdict M)
  unfolding verdict list_faults link_faults
  only_verdict M six q =
      only_or _ _
      (only_or _ _ (only_single 4 _ 0 (q 4 0 (λ z. omega arith) (λ z. omega arith))) λ s.
      only_or _ _ (only_single 27 _ _ (q 27 _ (λ z. omega arith) (λ z. omega arith))) λ s.
      only_or _ _ (only_lowest 5 _ _ (λ p. q 5 p (λ z. omega arith) (λ z. omega arith))) λ s.
      only_or _ _ (only_miss 6 _ _ six) λ s.
      only_or _ _ (only_lowest 7 _ _ (λ p. q 7 p (λ z. omega arith) (λ z. omega arith))) λ s.
      only_or _ _ (only_lowest 8 _ _ (λ p. q 8 p (λ z. omega arith) (λ z. omega arith))) λ s.
      only_or _ _ (only_lowest 28 _ _ (λ p. q 28 p (λ z. omega arith) (λ z. omega arith))) λ s.
      only_lowest 9 _ _ (λ p. q 9 p (λ z. omega arith) (λ z. omega arith))) λ s.
      only_or _ _ (only_lowest 10 _ _ (λ p. q 10 p (λ z. omega arith) (λ z. omega arith))) λ t.
      only_or _ _ (only_lowest 11 _ _ (λ p. q 11 p (λ z. omega arith) (λ z. omega arith))) λ t.
      only_or _ _ (only_lowest 12 _ _ (λ p. q 12 p (λ z. omega arith) (λ z. omega arith))) λ t.
      only_lowest 13 _ _ (λ p. q 13 p (λ z. omega arith) (λ z. omega arith))

-- ---- what a verdict over the words from p on says, where the words read end at q: a fault is 25, at p or later and at most at
-- the number of words; none says that there are words up to q
record Reads (words : List (List ℕ)) (v : Verdict) (p q : ℕ) : Type 0 where
  all : v ≡ sound → q ≤ length words
  some : (k r : ℕ) → v ≡ fault k r → (k ≡ 25) × (p ≤ r) × (r ≤ length words)

after : (words : List (List ℕ)) (v w : Verdict) (p q r : ℕ) → p ≤ q → Reads words v p q → (q ≤ length words → Reads words w q r)
    → Reads words (v or_else w) p r
unfolding ◌or_else◌
after words sound w p q r l a b =
    let c = b (a.all refl) in
    record { all = c.all; some = λ k s e. let d = c.some k s e in (d.0, omega (arith, d.1), d.2) }
after words (fault k s) w p q r l a b = record { all = λ e. unsound k s e; some = a.some }

module _ (words : List (List ℕ)) where
  read_one : (kind : Kind) (p : ℕ) → p ≤ length words → (b : Bool) → bad words kind p ≡ b → Reads words (single 25 b p) p (suc p)
  unfolding single bad
  read_one kind p l true e =
      record {
        all = λ f. unsound 25 p f;
        some = λ k r f. let u : 25 ≡ k = cc in let v : p ≡ r = cc in (sym u, omega arith, omega arith);
      }
  read_one kind p l false e =
      record { all = λ f. leb-false (length words) p (none_left (leb (length words) p) _ e); some = λ k r f. unsound k r (sym f) }

  read_some : (kind : Kind) (p n : ℕ) → p ≤ length words → Reads words (bad_from words kind p n) p (p + n)
  unfolding bad_from
  read_some kind p zero l = record { all = λ f. omega arith; some = λ k r f. unsound k r (sym f) }
  read_some kind p (suc n) l =
      let q : suc p + n ≡ p + suc n = omega arith in
      subst (λ (m : ℕ). Reads words (single 25 (bad words kind p) p or_else bad_from words kind (suc p) n) p m) q
      (after words _ _ p (suc p) _ (omega arith) (read_one kind p l (bad words kind p) refl) (λ m. read_some kind (suc p) n m))

  read_faces : (p left : ℕ) → p ≤ length words → Reads words (bad_faces words p left) p (end_from words p left)
  unfolding bad_faces end_from
  read_faces p zero l = record { all = λ f. l; some = λ k r f. unsound k r (sym f) }
  read_faces p (suc left) l =
      after words _ _ p (p + 1) _ (omega arith) (read_some side_count p 1 l) λ m.
      after words _ _ (p + 1) (face_after words p) _ (omega arith) (read_some vertex_number (p + 1) (sides_at words p) m) λ o.
      read_faces (face_after words p) left o

  read_all : 0 < length words → Reads words (needed_verdict words) 1 (words_end words)
  unfolding needed_verdict words_end
  read_all h =
      after words _ _ 1 4 _ (omega arith) (read_some list_count 1 3 h) λ m.
      after words _ _ 4 (faces_start words) _ (omega arith) (read_some coordinate 4 (3 * vertices words) m) λ o.
      read_faces (faces_start words) (faces words) o

-- a text whose first word is OFF has words
some_word : (words : List (List ℕ)) (lent : Lengths) → single 24 (fault24 words lent) 0 ≡ sound → 0 < length words
unfolding fault24 is_off
some_word [] lent e = absurd (clash (not-false (is_off []) (none_right (short lent) (not (is_off [])) (single_sound 24 _ 0 e))) refl)
some_word (w ∷ words) lent e = omega arith

-- ---- the whole verdict
module _ (Q : ℕ → ℕ → Type 0) (words : List (List ℕ)) (lent : Lengths) where
  only_words : Q 24 0 → (0 < length words → (p : ℕ) → 0 < p → p ≤ length words → Q 25 p) → ((p : ℕ) → Q 26 p)
      → ((k p : ℕ) → (k ≡ 6 → ⊥) → (k ≡ 25 → ⊥) → Q k p) → Only Q (words_verdict words lent)
  unfolding words_verdict
  only_words a b c d =
      only_or Q _ _ (only_single Q 24 _ 0 a) λ e.
      only_or Q _ _ (λ k p f. let s = (read_all words (some_word words lent e)).some k p f in
      subst (λ (n : ℕ). Q n p) (sym s.0) (b (some_word words lent e) p (omega (arith, s.1)) s.2)) λ f.
      only_or Q _ _ (only_single Q 26 _ _ (c _)) λ g.
      only_verdict Q (words_mesh words) (no_sum words) d

pub no_six : NoSix
unfolding off_verdict
no_six text lent r lists p c e =
    only_words (λ k p. k ≡ 6 → ⊥) (words_of text) (lengths_of lent) (λ z. omega arith) (λ h q l m z. omega arith) (λ q z. omega arith)
    (λ k q n m. n) 6 p
    (sym c.answers ∙ e) refl

pub missing_word : MissingWord
unfolding off_verdict
missing_word text lent r lists p c e =
    only_words (λ k p. k ≡ 25 → (0 < p) × (p ≤ length (words_of text))) (words_of text) (lengths_of lent) (λ z. absurd (omega arith)) (λ h q l m z.
    (l, m))
    (λ q z. absurd (omega arith)) (λ k q n m z. absurd (m z)) 25 p (sym c.answers ∙ e) refl

pub whole_text : WholeText
unfolding off_verdict words_verdict fault26
whole_text text lent l lists c =
    let v = sym c.answers in
    let later = sound_right _ _ v in
    let some = some_word (words_of text) (lengths_of lent) (sound_left _ _ v) in
    let enough : words_end (words_of text) ≤ length (words_of text) = (read_all (words_of text) some).all (sound_left _ _ later) in
    let none : length (words_of text) ≤ words_end (words_of text) = ltb-false _ _ (single_sound 26 _ _ (sound_left _ _ (sound_right _ _ later))) in
    omega arith
