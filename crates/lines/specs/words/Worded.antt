-- The line of a refusal in words. Which words a row of the table has is free here: a test compares the rows with those of the header.
use Rattle.std.specs.Prelude.{List, [], ◌∷◌, ◌++◌, ℕ}
use Rattle.streams.specs.text.Text.{decimal, Put}
use Rattle.lines.specs.Lines.{space, feed, refused_word}

-- what the place is, and the place; nothing where that is not said
unfoldable pub placed : List ℕ → ℕ → List ℕ
placed [] p = []
placed (b ∷ name) p = (b ∷ name) ++ ((space ∷ []) ++ decimal p)

-- the place and some words were put
pub record PlacePut (old : List ℕ) (at place : ℕ) (new : List ℕ) (to : ℕ) : Type 0 where
  pub name : List ℕ
  pub words : List ℕ
  pub put : Put old at (placed name place ++ words) new to

-- `refused`, the number, the place, some words and a line feed were put
pub record Worded (old : List ℕ) (number place : ℕ) (new : List ℕ) (to : ℕ) : Type 0 where
  pub name : List ℕ
  pub words : List ℕ
  pub put : Put old 0 (refused_word ++ (decimal number ++ ((placed name place ++ words) ++ (feed ∷ [])))) new to
