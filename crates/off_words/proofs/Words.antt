-- Words at the front of a text: a separator and a comment are passed over, and a run of other bytes up to one that ends it is the first word.
use mathlib.Core.Path.{◌≡◌, refl, sym, ap, ◌∙◌, subst}
use mathlib.Core.Bool.{Bool, true, false, ◌&&◌}
use lib.Pointwise.{pointwise}
use Rattle.std.proofs.Math.Bool.{and-true}
use mathlib.Core.Logic.{⊎_elim}
use mathlib.Core.List.{List, [], ◌∷◌}
use Prim.Native.Nat.{ℕ, zero, suc, ◌+◌, ◌-◌, ◌<◌, ◌≤◌}
use native.Mathlib.Omega.{arith}
use lib.Dec.{eqb, ltb}
use lib.ListN.{length, get_or, take, drop, drop_of_length-le}
use lib.Seq.{drop-cons}
use borrow.Author.Tests.{eqb-true, ne_eqb, ltb-true, ltb-false}
use Rattle.mesh.proofs.Scans.{ways, clash}
use Rattle.mesh.proofs.Ranges.{none_left, none_right}
use Rattle.paper.specs.Off.{separates, comments, uncommented, pieces_of, filled, words_of, is_off}
use Rattle.off_words.specs.Cursor.{ends, comment_words, WordSpan}

none : (b : Bool) → b && false ≡ false
none true = refl
none false = refl

-- ---- the word OFF
pub off_bytes : (word : List ℕ) → pointwise eqb word (79 ∷ (70 ∷ (70 ∷ []))) ≡ is_off word
unfolding is_off
off_bytes [] = refl
off_bytes (a ∷ []) = none (eqb a 79)
off_bytes (a ∷ (b ∷ [])) = rw (none (eqb b 70)) (none (eqb a 79))
off_bytes (a ∷ (b ∷ (c ∷ []))) = rw (and-true (eqb c 70))
off_bytes (a ∷ (b ∷ (c ∷ (d ∷ word)))) = rw (ne_eqb (length (a ∷ (b ∷ (c ∷ (d ∷ word))))) 3 (λ e. omega arith), none (eqb c 70), none (eqb b 70)) (none (eqb a 79))

-- ---- single bytes
hash_apart : (b : ℕ) → separates b ≡ true → eqb b 35 ≡ false
unfolding separates
hash_apart b e =
    ⊎_elim
    (λ h. let q : b ≡ 35 = eqb-true b 35 h in absurd (clash e (rw q)))
    (λ h. h)
    (ways (eqb b 35))

no_comment : (b : ℕ) → eqb b 35 ≡ false → comments false b ≡ false
unfolding comments
no_comment b e = rw e

module _ (b : ℕ) (text : List ℕ) where
  -- a byte that starts no comment stays
  plain : eqb b 35 ≡ false → uncommented false (b ∷ text) ≡ b ∷ uncommented false text
  unfolding uncommented
  plain e = rw (no_comment b e)

  separated : separates b ≡ true → pieces_of (uncommented false (b ∷ text)) ≡ [] ∷ pieces_of (uncommented false text)
  unfolding pieces_of
  separated e = rw (plain (hash_apart b e), e)

  pub past_separator : separates b ≡ true → words_of (b ∷ text) ≡ words_of text
  unfolding words_of
  past_separator e = ap filled (separated e)

  pub comment_on : eqb b 10 ≡ false → comment_words (b ∷ text) ≡ comment_words text
  unfolding comment_words uncommented comments
  comment_on e = rw e

pub comment_starts : (text : List ℕ) → words_of (35 ∷ text) ≡ comment_words text
unfolding words_of comment_words uncommented comments
comment_starts text = refl

pub comment_ends : (text : List ℕ) → comment_words (10 ∷ text) ≡ words_of (10 ∷ text)
unfolding words_of comment_words uncommented comments
comment_ends text = refl

pub comment_out : comment_words [] ≡ words_of []
unfolding words_of comment_words uncommented
comment_out = refl

-- ---- the first piece of a text, and the words after it
pub record Piece (text word : List ℕ) (rest : List (List ℕ)) : Type 0 where
  pub pieces : List (List ℕ)
  pub first : pieces_of (uncommented false text) ≡ word ∷ pieces
  pub after : filled pieces ≡ rest

no_piece : (text : List ℕ) (pieces : List (List ℕ)) → pieces_of (uncommented false text) ≡ [] ∷ pieces → Piece text [] (words_of text)
unfolding words_of
no_piece text pieces e = record { pieces = pieces; first = e; after = sym (ap filled e) }

feed_piece : (b : ℕ) (text : List ℕ) → b ≡ 10 → pieces_of (uncommented true (b ∷ text)) ≡ [] ∷ pieces_of (uncommented false text)
unfolding pieces_of uncommented comments separates
feed_piece b text q = rw q

-- a comment begins with an empty piece
comment_piece : (text : List ℕ) → (pieces : List (List ℕ)) × (pieces_of (uncommented true text) ≡ [] ∷ pieces)
unfolding pieces_of uncommented comments
comment_piece [] = ([], refl)
comment_piece (b ∷ text) =
    ⊎_elim
    (λ h. (pieces_of (uncommented false text), feed_piece b text (eqb-true b 10 h)))
    (λ h. rw h (comment_piece text))
    (ways (eqb b 10))

pub piece_none : Piece [] [] (words_of [])
unfolding pieces_of uncommented
piece_none = no_piece [] [] refl

hash_pieces : (b : ℕ) (text : List ℕ) → b ≡ 35 → pieces_of (uncommented false (b ∷ text)) ≡ pieces_of (uncommented true text)
unfolding uncommented comments
hash_pieces b text q = rw q

pub piece_ended : (b : ℕ) (text : List ℕ) → ends b ≡ true → Piece (b ∷ text) [] (words_of (b ∷ text))
unfolding ends
piece_ended b text e =
    ⊎_elim
    (λ h. no_piece (b ∷ text) (pieces_of (uncommented false text)) (separated b text h))
    (λ h. let q : b ≡ 35 = eqb-true b 35 (rw h at e) in
    let p = comment_piece text in no_piece (b ∷ text) p.0 (hash_pieces b text q ∙ p.1))
    (ways (separates b))

pub piece_longer : (b : ℕ) (text word : List ℕ) (rest : List (List ℕ)) → ends b ≡ false → Piece text word rest → Piece (b ∷ text) (b ∷ word) rest
unfolding ends pieces_of
piece_longer b text word rest e p =
    record {
      pieces = p.pieces;
      first = rw (plain b text (none_right (separates b) (eqb b 35) e), none_left (separates b) (eqb b 35) e, p.first);
      after = p.after;
    }

pub piece_word : (text : List ℕ) (b : ℕ) (word : List ℕ) (rest : List (List ℕ)) → Piece text (b ∷ word) rest → words_of text ≡ (b ∷ word) ∷ rest
unfolding words_of
piece_word text b word rest p = ap filled p.first ∙ ap (λ l. (b ∷ word) ∷ l) p.after

-- every text has a first piece
pub some_piece : (text : List ℕ) → (word : List ℕ) × (rest : List (List ℕ)) × Piece text word rest
some_piece [] = ([], words_of [], piece_none)
some_piece (b ∷ text) =
    ⊎_elim
    (λ e. ([], words_of (b ∷ text), piece_ended b text e))
    (λ e. let p = some_piece text in (b ∷ p.0, p.1, piece_longer b text p.0 p.1 e p.2))
    (ways (ends b))

-- ---- a run of bytes in a text
-- what stands at a place that is not inside a word
pub piece_at : (text : List ℕ) (at : ℕ) → at ≤ length text → (at < length text → ends (get_or text at 0) ≡ true)
    → Piece (drop at text) [] (words_of (drop at text))
piece_at text at l e =
    ⊎_elim
    (λ h. let q = drop-cons text at 0 (ltb-true at (length text) h) in
    subst (λ (t : List ℕ). Piece t [] (words_of t)) (sym q) (piece_ended (get_or text at 0) (drop (suc at) text) (e (ltb-true at (length text) h))))
    (λ h. subst (λ (t : List ℕ). Piece t [] (words_of t)) (sym (drop_of_length-le text (ltb-false at (length text) h))) piece_none)
    (ways (ltb at (length text)))

run_piece : (k : ℕ) (text : List ℕ) (from to : ℕ) → to ≡ from + k → to ≤ length text
    → ((j : ℕ) → from ≤ j → j < to → ends (get_or text j 0) ≡ false)
    → (to < length text → ends (get_or text to 0) ≡ true)
    → Piece (drop from text) (take k (drop from text)) (words_of (drop to text))
run_piece zero text from to q l w e =
    let p : to ≡ from = omega arith in
    subst (λ (n : ℕ). Piece (drop n text) [] (words_of (drop to text))) p (piece_at text to l e)
run_piece (suc k) text from to q l w e =
    let d = drop-cons text from 0 (omega arith) in
    rw d (piece_longer (get_or text from 0) (drop (suc from) text) _ _ (w from (omega arith) (omega arith))
    (run_piece k text (suc from) to (omega arith) l (λ j a b. w j (omega arith) b) e))

module _ (text : List ℕ) (from to : ℕ) (r : WordSpan text from to) where
  pub run_is : Piece (drop from text) (take (to - from) (drop from text)) (words_of (drop to text))
  run_is = run_piece (to - from) text from to (omega (arith, r.forward)) r.inside r.whole r.stops
