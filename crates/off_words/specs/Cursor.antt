-- Where a cursor stands in a text, and what is read there.
use Rattle.std.specs.Prelude.{◌≡◌, Bool, true, false, ◌||◌, Option, Some, None, List, [], ℕ, ◌+◌, ◌<◌, ◌≤◌, eqb, length, get_or, drop}
use Rattle.paper.specs.Off.{separates, uncommented, pieces_of, filled, words_of, is_number, value_of, is_off}
use Rattle.off_words.specs.declared.Cursor.{Cursor}
use Rattle.off_words.specs.declared.Number.{Number}

-- a byte that ends a word: a separator, or the # of a comment
unfoldable pub ends : ℕ → Bool
ends b = separates b || eqb b 35

-- the words of a text whose first bytes belong to a comment
unfoldable pub comment_words : List ℕ → List (List ℕ)
comment_words text = filled (pieces_of (uncommented true text))

-- the cursor stands before word n: the words from here on are the text's from n on
pub record Before (text : List ℕ) (n : ℕ) (c : Cursor) : Type 0 where
  pub inside : c.at ≤ length text
  pub early : n ≤ c.at
  pub number : c.word ≡ n
  pub here : words_of (drop c.at text) ≡ drop n (words_of text)

-- and at its first byte, where there is such a word
pub record At (text : List ℕ) (n : ℕ) (c : Cursor) : Type 0 where
  pub before : Before text n c
  pub first : c.at < length text → ends (get_or text c.at 0) ≡ false

-- the word from one place to another: none of its bytes ends it, and it goes as far as it can
pub record WordSpan (text : List ℕ) (from to : ℕ) : Type 0 where
  pub forward : from ≤ to
  pub inside : to ≤ length text
  pub whole : (j : ℕ) → from ≤ j → j < to → ends (get_or text j 0) ≡ false
  pub stops : to < length text → ends (get_or text to 0) ≡ true

-- word n is a number: which, and a cursor before the next word
pub record NumberThere (text : List ℕ) (n : ℕ) (r : Number) : Type 0 where
  pub is : is_number (get_or (words_of text) n []) ≡ true
  pub value : r.value ≡ value_of (get_or (words_of text) n [])
  pub next : Before text (n + 1) r.next

-- word n as a number, if it is there and is one
abbrev pub NumberRead : List ℕ → ℕ → Option Number → Type 0
NumberRead text n None = is_number (get_or (words_of text) n []) ≡ false
NumberRead text n (Some r) = NumberThere text n r

-- the first word is OFF: a cursor before the next
pub record MarkThere (text : List ℕ) (next : Cursor) : Type 0 where
  pub is : is_off (get_or (words_of text) 0 []) ≡ true
  pub next_is : Before text 1 next

-- past the first word, if it is OFF
abbrev pub MarkRead : List ℕ → Option Cursor → Type 0
MarkRead text None = is_off (get_or (words_of text) 0 []) ≡ false
MarkRead text (Some next) = MarkThere text next
