-- A cursor before a word, moved past separators and comments, and the word that it then stands at.
use mathlib.Core.Path.{◌≡◌, refl, sym, ap, ◌∙◌, subst}
use mathlib.Core.Bool.{Bool, true, false}
use mathlib.Core.Logic.{⊎_elim}
use mathlib.Core.List.{List, [], ◌∷◌}
use Prim.Native.Nat.{ℕ, zero, suc, ◌+◌, ◌-◌, ◌<◌, ◌≤◌}
use native.Mathlib.Omega.{arith}
use native.Mathlib.Numerals.{add-one}
use lib.Dec.{eqb, ltb}
use lib.ListN.{length, get_or, take, drop, drop_of_length-le, length-drop}
use lib.Seq.{drop-cons, drop-drop, get_or-drop, take-nil}
use borrow.Author.Tests.{ltb-true, ltb-false, ne_eqb, lt-ltb, le-ltb}
use Rattle.std.specs.Prelude.{None}
use Rattle.std.specs.List.{position, position_or_len}
use Rattle.std.proofs.lemmas.Option.{none-some}
use Rattle.std.proofs.lemmas.List.Sums.{fails_before_first}
use Rattle.mesh.proofs.Ranges.{or_none}
use Rattle.mesh.proofs.Scans.{ways, clash}
use Rattle.paper.specs.Off.{separates, uncommented, pieces_of, words_of, is_number, is_off}
use Rattle.off_words.specs.Cursor.{ends, comment_words, Before, At, WordSpan}
use Rattle.off_words.specs.declared.Cursor.{Cursor}
use Rattle.off_words.proofs.Words.{past_separator, comment_starts, comment_on, comment_ends, comment_out, Piece, piece_longer, piece_word}
use Rattle.off_words.proofs.Words.{some_piece, run_is}

-- ---- a comment, byte by byte
comment_next : (text : List ℕ) (at : ℕ) → at < length text → eqb (get_or text at 0) 10 ≡ false
    → comment_words (drop at text) ≡ comment_words (drop (at + 1) text)
comment_next text at h e = rw (add-one, drop-cons text at 0 h) (comment_on (get_or text at 0) (drop (suc at) text) e)

module _ (text : List ℕ) (at : ℕ) where
  pub comment_feed : at < length text → get_or text at 0 ≡ 10 → comment_words (drop at text) ≡ words_of (drop at text)
  comment_feed h e = rw (drop-cons text at 0 h, e) (comment_ends (drop (suc at) text))

  pub comment_last : length text ≤ at → comment_words (drop at text) ≡ words_of (drop at text)
  comment_last h = rw (drop_of_length-le text h) comment_out

  pub comment_words_lem : at < length text → get_or text at 0 ≡ 35 → words_of (drop at text) ≡ comment_words (drop (at + 1) text)
  comment_words_lem h e = rw (add-one, drop-cons text at 0 h, e) (comment_starts (drop (suc at) text))

  pub separator_words : at < length text → separates (get_or text at 0) ≡ true → words_of (drop at text) ≡ words_of (drop (at + 1) text)
  separator_words h e = rw (add-one, drop-cons text at 0 h) (past_separator (get_or text at 0) (drop (suc at) text) e)

  -- from `at` on no line feed stands before n bytes more
  pub comment_run : (n : ℕ) → at + n ≤ length text → ((k : ℕ) → k < n → eqb (get_or (drop at text) k 0) 10 ≡ false)
      → comment_words (drop at text) ≡ comment_words (drop (at + n) text)
  comment_run zero l h = let q : at + 0 ≡ at = omega arith in rw q
  comment_run (suc n) l h =
      let q : at + n + 1 ≡ at + suc n = omega arith in
      comment_run n (omega arith) (λ k m. h k (omega arith))
      ∙ rw q at (comment_next text (at + n) (omega arith) (ap (λ b. eqb b 10) (sym (get_or-drop at text n 0)) ∙ h n (omega arith)))

-- ---- the first byte that passes a test
pub none_passes : (p : ℕ → Bool) (xs : List ℕ) → position p xs ≡ None → (k : ℕ) → k < length xs → p (get_or xs k 0) ≡ false
none_passes p xs e k h =
    ⊎_elim
    (λ t. absurd (none-some (position_or_len p xs) (sym e ∙ rw t)))
    (λ f. fails_before_first p xs k 0 (omega (arith, ltb-false (position_or_len p xs) (length xs) f)))
    (ways (ltb (position_or_len p xs) (length xs)))

-- ---- a word, by the first byte that ends it
module _ (text : List ℕ) (from n : ℕ) (within : from ≤ length text)
    (before : (k : ℕ) → k < n → ends (get_or (drop from text) k 0) ≡ false) where
  run_to : (to : ℕ) → to ≡ from + n → (j : ℕ) → from ≤ j → j < to → ends (get_or text j 0) ≡ false
  run_to to q j a b =
      let e : from + (j - from) ≡ j = omega arith in
      rw e at (ap ends (sym (get_or-drop from text (j - from) 0)) ∙ before (j - from) (omega arith))

  pub span_to : n < length (drop from text) → ends (get_or (drop from text) n 0) ≡ true → WordSpan text from (from + n)
  span_to l e =
      record {
        forward = omega arith;
        inside = omega (arith, length-drop from text);
        whole = run_to (from + n) refl;
        stops = λ h. ap ends (sym (get_or-drop from text n 0)) ∙ e;
      }

  pub span_whole : n ≡ length (drop from text) → WordSpan text from (length text)
  span_whole q =
      record { forward = within; inside = omega arith; whole = run_to (length text) (omega (arith, length-drop from text)); stops = λ h. absurd (omega arith) }

-- ---- moving on
-- to a place before the same word
pub before_on : (text : List ℕ) (n : ℕ) (c r : Cursor) (to words : ℕ) → Before text n c → c.at < to → to ≤ length text
    → words_of (drop c.at text) ≡ words_of (drop to text)
    → r.at ≡ to → r.word ≡ c.word + words → words ≡ 0 → Before text n r
before_on text n c r to words b l h e p q z =
    record {
      inside = omega arith;
      early = omega (arith, b.early);
      number = omega (arith, b.number);
      here = ap (λ (k : ℕ). words_of (drop k text)) p ∙ sym e ∙ b.here;
    }

-- a cursor's own word number
pub own : (text : List ℕ) (n : ℕ) (c : Cursor) → Before text n c → Before text c.word c
own text n c b = subst (λ (k : ℕ). Before text k c) (sym b.number) b

pub same : (text : List ℕ) (m n : ℕ) (c : Cursor) → m ≡ n → Before text m c → Before text n c
same text m n c e b = subst (λ (k : ℕ). Before text k c) e b

pub same_at : (text : List ℕ) (m n : ℕ) (c : Cursor) → m ≡ n → At text m c → At text n c
same_at text m n c e a = subst (λ (k : ℕ). At text k c) e a

pub ends_none : (b : ℕ) → separates b ≡ false → (b ≡ 35 → ⊥) → ends b ≡ false
unfolding ends
ends_none b e d = or_none (separates b) (eqb b 35) e (ne_eqb b 35 d)

-- ---- the word at the cursor
module _ (text : List ℕ) (n : ℕ) (c : Cursor) (to : ℕ) (a : At text n c) (r : WordSpan text c.at to) where
  word : List ℕ
  word = take (to - c.at) (drop c.at text)

  head_word : get_or (words_of text) n [] ≡ get_or (words_of (drop c.at text)) 0 []
  head_word =
      let q : n + 0 ≡ n = omega arith in
      ap (λ (k : ℕ). get_or (words_of text) k []) (sym q) ∙ sym (get_or-drop n (words_of text) 0 [])
      ∙ ap (λ (l : List (List ℕ)). get_or l 0 []) (sym a.before.here)

  module _ (h : c.at < length text) where
    forward : c.at < to
    forward =
        ⊎_elim
        (λ e. ltb-true c.at to e)
        (λ e. let q : to ≡ c.at = omega (arith, ltb-false c.at to e, r.forward) in
        absurd (clash (ap (λ (k : ℕ). ends (get_or text k 0)) (sym q) ∙ r.stops (omega arith)) (a.first h)))
        (ways (ltb c.at to))

    word_words : words_of (drop c.at text) ≡ word ∷ words_of (drop to text)
    unfolding word
    word_words =
        let d = drop-cons text c.at 0 h in
        let q : to - c.at ≡ suc (to - suc c.at) = omega (arith, forward) in
        let w : take (to - c.at) (drop c.at text) ≡ get_or text c.at 0 ∷ take (to - suc c.at) (drop (suc c.at) text) = rw (q, d) in
        let p : Piece (drop c.at text) (get_or text c.at 0 ∷ take (to - suc c.at) (drop (suc c.at) text)) (words_of (drop to text)) =
        subst (λ (l : List ℕ). Piece (drop c.at text) l (words_of (drop to text))) w (run_is text c.at to r) in
        piece_word (drop c.at text) _ _ _ p ∙ ap (λ (l : List ℕ). l ∷ words_of (drop to text)) (sym w)

  pub word_here : get_or (words_of text) n [] ≡ take (to - c.at) (drop c.at text)
  unfolding word words_of pieces_of uncommented
  word_here =
      ⊎_elim
      (λ e. head_word ∙ ap (λ (l : List (List ℕ)). get_or l 0 []) (word_words (ltb-true c.at (length text) e)))
      (λ e. let d = drop_of_length-le text (ltb-false c.at (length text) e) in head_word ∙ out d)
      (ways (ltb c.at (length text)))
    where
      out : drop c.at text ≡ [] → get_or (words_of (drop c.at text)) 0 [] ≡ take (to - c.at) (drop c.at text)
      out d = rw (d, take-nil (to - c.at)) none
        where
          none : get_or (words_of []) 0 [] ≡ []
          none = refl

  -- past a word that is there
  module _ (there : take (to - c.at) (drop c.at text) ≡ [] → ⊥) where
    inside : c.at < length text
    inside =
        ⊎_elim
        (λ e. ltb-true c.at (length text) e)
        (λ e. let d = drop_of_length-le text (ltb-false c.at (length text) e) in
        absurd (there (rw d (take-nil (to - c.at)))))
        (ways (ltb c.at (length text)))

    pub room : c.word + 1 ≤ to
    room = omega (arith, forward inside, a.before.early, a.before.number)

    pub before_next : (s : Cursor) → s.at ≡ to → s.word ≡ c.word + 1 → Before text (n + 1) s
    before_next s p q =
        record {
          inside = omega (arith, r.inside);
          early = omega (arith, room, a.before.number);
          number = omega (arith, a.before.number);
          here = ap (λ (k : ℕ). words_of (drop k text)) p ∙ sym (ap (λ (l : List (List ℕ)). drop 1 l) (word_words inside))
              ∙ ap (λ (l : List (List ℕ)). drop 1 l) a.before.here ∙ drop-drop 1 n (words_of text);
        }

-- a word that is a number, or OFF, is there
pub number_there : (word : List ℕ) → is_number word ≡ true → word ≡ [] → ⊥
unfolding is_number
number_there w e q = clash (sym (ap is_number q) ∙ e) refl

pub off_there : (word : List ℕ) → is_off word ≡ true → word ≡ [] → ⊥
unfolding is_off
off_there w e q = clash (sym (ap is_off q) ∙ e) refl

-- ---- whether a word is left
some_word : (b : ℕ) (text : List ℕ) → ends b ≡ false → 0 < length (words_of (b ∷ text))
some_word b text e =
    let p = some_piece text in
    omega (arith, ap length (piece_word (b ∷ text) b p.0 p.1 (piece_longer b text p.0 p.1 e p.2)))

module _ (text : List ℕ) (n : ℕ) (c : Cursor) (a : At text n c) where
  left : length (words_of (drop c.at text)) ≡ length (words_of text) - n
  left = ap length a.before.here ∙ length-drop n (words_of text)

  pub word_left : ltb c.at (length text) ≡ ltb n (length (words_of text))
  unfolding words_of pieces_of uncommented
  word_left =
      ⊎_elim
      (λ e. let h = ltb-true c.at (length text) e in
      let w = some_word (get_or text c.at 0) (drop (suc c.at) text) (a.first h) in
      let q = ap (λ (t : List ℕ). length (words_of t)) (drop-cons text c.at 0 h) in
      e ∙ sym (lt-ltb n (length (words_of text)) (omega (arith, left, w, q))))
      (λ e. let q = ap (λ (t : List ℕ). length (words_of t)) (drop_of_length-le text (ltb-false c.at (length text) e)) in
      e ∙ sym (le-ltb n (length (words_of text)) (omega (arith, left, q))))
      (ways (ltb c.at (length text)))
