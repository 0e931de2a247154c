-- What the scratch tables of the listing hold.
use Rattle.std.specs.Prelude.{◌≡◌, Bool, true, false, List, ℕ, ◌<◌, ◌≤◌, length, get_or, take, Option, Some, None}
use Rattle.paper.specs.Faults.{lowest_of, stated, kept, Answer}
use Rattle.paper.specs.Nesting.{most_bodies, ends_at_sun, fault22, fault23, listed, next_body, listing}

-- true for the bodies that stand in the list, false for all others
unfoldable pub Marks : List ℕ → List Bool → Type 0
Marks list marks = (b : ℕ) → get_or marks b false ≡ listed list b

-- true for the bodies whose chain ends at the Sun
unfoldable pub ChainMarks : List ℕ → List Bool → Type 0
ChainMarks holders marks = (b : ℕ) → b < length holders → get_or marks b false ≡ ends_at_sun holders b

-- what arranging asks: 22 has passed, and there is room; no body is marked
pub record Arrangeable (holders : List ℕ) (marks : List Bool) (order : List ℕ) : Type 0 where
  pub few : length holders ≤ most_bodies
  pub held : (b : ℕ) → b < length holders → fault22 holders b ≡ false
  pub marks_room : length holders ≤ length marks
  pub order_room : length holders ≤ length order
  pub blank : (b : ℕ) → get_or marks b false ≡ false

-- and gives
pub record Arranged (holders : List ℕ) (marks : List Bool) (order : List ℕ) : Type 0 where
  pub marked : ChainMarks holders marks
  pub lists : ((b : ℕ) → b < length holders → ends_at_sun holders b ≡ true) → take (length holders) order ≡ listing holders

-- check 23 and the listing, after 21 and 22
pub record ListedIn (holders old : List ℕ) (r : Answer) (out : List ℕ) : Type 0 where
  pub answers : stated r ≡ lowest_of 23 (length holders) (fault23 holders)
  pub holds : out ≡ kept (stated r) (listing holders) old

-- the lowest body that may come next after those of the list
abbrev pub NextBody : List ℕ → List ℕ → Option ℕ → Type 0
NextBody holders list (Some b) = (b < length holders) × (b ≡ next_body holders list)
NextBody holders list None = next_body holders list ≡ length holders
