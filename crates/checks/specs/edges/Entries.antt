-- What the column of links holds while edges are checked, and the columns by which its entries are found.
use Rattle.std.specs.Prelude.{◌≡◌, Bool, true, false, List, ℕ, ◌+◌, ◌-◌, ◌*◌, ◌<◌, ◌≤◌, eqb, length}
use Rattle.paper.specs.Mesh.{most_corners}
use Rattle.paper.specs.Corners.{sum_of, next, previous}
use Rattle.paper.specs.Links.{vertex_of, linked, link, valence, lowest}
use Rattle.paper.specs.Faults.{sound, ◌or_else◌, lowest_of, fault10, fault11, stated, Answer}
use Rattle.walk.specs.Table.{row_length, to_next, to_previous, to_link, sides_here, valence_here, entry, Column, Kept}
use Rattle.checks.specs.columns.Vertices.{last_here, leaving_here, arriving_here, count_here, lowest_here, noted, Rowed}
use Rattle.checks.specs.columns.Chain.{EarliersFrom, last_of}
use Rattle.checks.specs.columns.Filled.{CornersCounted}

-- the entry of a corner whose leaving edge already left an earlier one, and of a corner whose leaving edge has no reverse: no corners
abbrev pub repeated : ℕ
repeated = 8193

abbrev pub alone : ℕ
alone = 8192

-- the entry of corner c: one of these, where it is at fault, or a corner at its vertex whose arriving edge is the reverse of its leaving edge
pub data Entry (sides corners : List ℕ) (c : ℕ) : ℕ → Type 0 where
  again : fault10 sides corners c ≡ true → Entry sides corners c repeated
  single : fault10 sides corners c ≡ false → fault11 sides corners c ≡ true → Entry sides corners c alone
  joined : fault10 sides corners c ≡ false → (d : ℕ) → d < length corners → linked sides corners c d ≡ true → Entry sides corners c d

unfoldable pub Entries : List ℕ → List ℕ → List ℕ → Type 0
Entries sides corners table = (c : ℕ) → c < length corners → Entry sides corners c (entry table to_link c)

-- corner c has this entry
abbrev pub has : List ℕ → ℕ → ℕ → Bool
has table x c = eqb (entry table to_link c) x

-- ---- the search
-- the far ends of a corner's edges, by the table
abbrev pub to : List ℕ → List ℕ → ℕ → ℕ
to corners table c = vertex_of corners (entry table to_next c)

abbrev pub from : List ℕ → List ℕ → ℕ → ℕ
from corners table c = vertex_of corners (entry table to_previous c)

-- a table of corners and a table of vertices that the search can go by: its steps lead to corners, and each vertex has a row
pub record Searchable (corners table vertices : List ℕ) : Type 0 where
  pub small : length corners ≤ most_corners
  pub long : row_length * length corners ≤ length table
  pub rowed : Rowed corners vertices
  pub nexts_in : (c : ℕ) → c < length corners → entry table to_next c < length corners
  pub previouses_in : (c : ℕ) → c < length corners → entry table to_previous c < length corners

-- the chains of the vertices from u on stand in the column where the valences of those before it stand
abbrev pub ChainsFrom : List ℕ → List ℕ → ℕ → Type 0
ChainsFrom corners table u = EarliersFrom corners (entry table valence_here) u

-- and the heads of these chains in that where the lowest corners of those before it stand
abbrev pub HeadsFrom : List ℕ → List ℕ → ℕ → Type 0
HeadsFrom corners vertices u = (v : ℕ) → u ≤ v → noted vertices last_here v ≡ last_of corners v

-- a column of corners by their key, the far end of an edge: each entry is 0, or one more than a corner that has the key
pub record ColumnKeyed (corners : List ℕ) (key column : ℕ → ℕ) : Type 0 where
  pub inside : (t : ℕ) → (column t ≡ 0 → ⊥) → column t ≤ length corners
  pub key_is : (t : ℕ) → (column t ≡ 0 → ⊥) → key (column t - 1) ≡ t

-- both columns of edges
pub record BothKeyed (corners table vertices : List ℕ) : Type 0 where
  pub left : ColumnKeyed corners (to corners table) (noted vertices leaving_here)
  pub arrived : ColumnKeyed corners (from corners table) (noted vertices arriving_here)

-- an entry that is one more than a corner of u, and no higher one than d
pub record Hit (corners : List ℕ) (u d x : ℕ) : Type 0 where
  pub some : x ≡ 0 → ⊥
  pub low : x ≤ d + 1
  pub own : vertex_of corners (x - 1) ≡ u

-- the corners of u from `at` on are in the column
unfoldable pub InColumn : List ℕ → (ℕ → ℕ) → (ℕ → ℕ) → ℕ → ℕ → Type 0
InColumn corners key column u at = (d : ℕ) → at ≤ d → d < length corners → vertex_of corners d ≡ u → Hit corners u d (column (key d))

-- both columns, with the corners of u from `at` on
pub record MarkedFrom (corners table vertices : List ℕ) (u at : ℕ) : Type 0 where
  pub keyed : BothKeyed corners table vertices
  pub left_from : InColumn corners (to corners table) (noted vertices leaving_here) u at
  pub arrived_from : InColumn corners (from corners table) (noted vertices arriving_here) u at

-- how many corners u has, and the lowest where it has any
pub record CountedAt (corners vertices : List ℕ) (u : ℕ) : Type 0 where
  pub count_is : noted vertices count_here u ≡ valence corners u
  pub lowest_is : lowest corners u < length corners → noted vertices lowest_here u ≡ lowest corners u

-- what marking u keeps: what is noted of the other vertices
pub record Unmarked (old new : List ℕ) (u : ℕ) : Type 0 where
  pub heads : (v : ℕ) → (v ≡ u → ⊥) → noted new last_here v ≡ noted old last_here v
  pub counts : (v : ℕ) → (v ≡ u → ⊥) → noted new count_here v ≡ noted old count_here v

-- side counts that the table's steps belong to
pub record StepsBelong (sides corners table : List ℕ) : Type 0 where
  pub sums : sum_of sides ≡ length corners
  pub nexts : Column table to_next (next sides) (length corners)
  pub previouses : Column table to_previous (previous sides) (length corners)

-- the entry of a corner, for all such side counts
abbrev pub EntryFor : List ℕ → List ℕ → ℕ → ℕ → Type 0
EntryFor corners table c x = (sides : List ℕ) → StepsBelong sides corners table → Entry sides corners c x

-- the columns of the faces hold what they held
pub record FacesKept (old new : List ℕ) : Type 0 where
  pub nexts : Kept old new to_next
  pub previouses : Kept old new to_previous
  pub sides_are : Kept old new sides_here

-- the corners of u have their entries and their valence; the others, and the columns of the faces, hold what they held
pub record Collected (corners old new : List ℕ) (u : ℕ) : Type 0 where
  pub entries : (c : ℕ) → c < length corners → vertex_of corners c ≡ u → EntryFor corners old c (entry new to_link c)
  pub others : (c : ℕ) → (vertex_of corners c ≡ u → ⊥) → entry new to_link c ≡ entry old to_link c
  pub valences : (c : ℕ) → c < length corners → vertex_of corners c ≡ u → entry new valence_here c ≡ valence corners u
  pub chains : (c : ℕ) → (vertex_of corners c ≡ u → ⊥) → entry new valence_here c ≡ entry old valence_here c
  pub faces : FacesKept old new

-- the column of valences
abbrev pub Valences : List ℕ → List ℕ → Type 0
Valences corners table = Column table valence_here (λ c. valence corners (vertex_of corners c)) (length corners)

-- all corners have their entries and their valences, and the vertices are counted; the columns of the faces hold what they held
pub record EntriesFound (corners old new vertices : List ℕ) : Type 0 where
  pub entries : (sides : List ℕ) → StepsBelong sides corners new → Entries sides corners new
  pub valences : Valences corners new
  pub faces : FacesKept old new
  pub counted : CornersCounted corners vertices

-- checks 10 and 11, for all side counts that the entries belong to; the entries are the links, where both have passed
pub record EdgesChecked (corners table : List ℕ) (r : Answer) : Type 0 where
  pub answers : (sides : List ℕ) → sum_of sides ≡ length corners → Entries sides corners table
      → stated r ≡ lowest_of 10 (length corners) (fault10 sides corners) or_else lowest_of 11 (length corners) (fault11 sides corners)
  pub links : (sides : List ℕ) → sum_of sides ≡ length corners → Entries sides corners table → stated r ≡ sound
      → Column table to_link (link sides corners) (length corners)
