-- What filling the columns asks and gives.
use Rattle.std.specs.Prelude.{◌≡◌, List, ℕ, ◌+◌, ◌*◌, ◌<◌, ◌≤◌, length, set}
use Rattle.paper.specs.Mesh.{most_corners}
use Rattle.paper.specs.Corners.{sum_of, sides_of, next, previous}
use Rattle.paper.specs.Links.{valence, lowest}
use Rattle.walk.specs.Table.{row_length, to_next, to_previous, sides_here, entry, Column}
use Rattle.checks.specs.columns.Vertices.{count_here, lowest_here, noted, Rowed}
use Rattle.checks.specs.columns.Chain.{Clear}

-- the corners below n have their rows, where next is known by the corner that it leads to
pub record FacesTo (sides table : List ℕ) (n : ℕ) : Type 0 where
  pub nexts : (c : ℕ) → c < n → entry table to_next (previous sides c) ≡ c
  pub previouses : Column table to_previous (previous sides) n
  pub sides_are : Column table sides_here (sides_of sides) n

-- the columns of the faces
pub record FacesFilled (sides table : List ℕ) : Type 0 where
  pub nexts : Column table to_next (next sides) (sum_of sides)
  pub previouses : Column table to_previous (previous sides) (sum_of sides)
  pub sides_are : Column table sides_here (sides_of sides) (sum_of sides)

-- the row of corner c in them, after corner `last` in a face of n sides, and the next of that corner
abbrev pub row_filled : List ℕ → ℕ → ℕ → ℕ → List ℕ
row_filled table c last n = set (set (set table (row_length * last + to_next) c) (row_length * c + to_previous) last) (row_length * c + sides_here) n

-- a row for corner c
abbrev pub RowAt : List ℕ → ℕ → Type 0
RowAt table c = (c < most_corners) × (row_length * c + row_length ≤ length table)

-- what counting asks, and gives: how many corners each vertex has, and the lowest where it has any
pub record Countable (corners vertices : List ℕ) : Type 0 where
  pub small : length corners ≤ most_corners
  pub rowed : Rowed corners vertices
  pub clear : Clear vertices count_here

pub record CornersCounted (corners vertices : List ℕ) : Type 0 where
  pub count_is : (u : ℕ) → noted vertices count_here u ≡ valence corners u
  pub lowest_is : (u : ℕ) → lowest corners u < length corners → noted vertices lowest_here u ≡ lowest corners u
