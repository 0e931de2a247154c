-- The table of corners: a row of five numbers for each corner, its next, previous and linked corner, the sides of its face and the
-- corners of its vertex.
use Rattle.std.specs.Prelude.{◌≡◌, List, ℕ, ◌+◌, ◌*◌, ◌<◌, ◌≤◌, length, get_or}
use Rattle.paper.specs.Refined.{Corners}

abbrev pub row_length : ℕ
row_length = 5

-- ---- the columns
abbrev pub to_next : ℕ
to_next = 0

abbrev pub to_previous : ℕ
to_previous = 1

abbrev pub to_link : ℕ
to_link = 2

abbrev pub sides_here : ℕ
sides_here = 3

abbrev pub valence_here : ℕ
valence_here = 4

-- what stands in column k for corner c
abbrev pub entry : List ℕ → ℕ → ℕ → ℕ
entry table k c = get_or table (row_length * c + k) 0

-- column k holds f for each corner below n
abbrev pub Column : List ℕ → ℕ → (ℕ → ℕ) → ℕ → Type 0
Column table k f n = (c : ℕ) → c < n → entry table k c ≡ f c

-- column k holds what it held
abbrev pub Kept : List ℕ → List ℕ → ℕ → Type 0
Kept old new k = (c : ℕ) → entry new k c ≡ entry old k c

-- every column but k holds what it held
abbrev pub KeptBut : ℕ → List ℕ → List ℕ → Type 0
KeptBut k old new = (j : ℕ) → j < row_length → (j ≡ k → ⊥) → Kept old new j

-- a table of zeros
abbrev pub Blank : List ℕ → Type 0
Blank table = (i : ℕ) → get_or table i 0 ≡ 0

-- ---- the table of the corners K
pub record Tabled (K : Corners) (table : List ℕ) : Type 0 where
  pub long : row_length * K.count ≤ length table
  pub nexts : Column table to_next K.next K.count
  pub previouses : Column table to_previous K.previous K.count
  pub links : Column table to_link K.link K.count
  pub sides : Column table sides_here K.sides K.count
  pub valences : Column table valence_here K.valence K.count

-- the corners that a table of n rows is of
abbrev pub tabled : ℕ → List ℕ → Corners
tabled n table = record {
  count = n;
  next = entry table to_next;
  previous = entry table to_previous;
  link = entry table to_link;
  sides = entry table sides_here;
  valence = entry table valence_here;
}

-- ---- a step from c by column k leads to d: of every table of corners, where their own step leads
pub record Led (table : List ℕ) (k : ℕ) (step : Corners → ℕ → ℕ) (c d : ℕ) : Type 0 where
  pub read : d ≡ entry table k c
  pub leads : (K : Corners) → Tabled K table → c < K.count → d ≡ step K c
