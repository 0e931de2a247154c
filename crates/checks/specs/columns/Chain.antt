-- The chains of the vertices: each corner leads to the earlier one of its vertex, and each vertex to its highest corner.
use Rattle.std.specs.Prelude.{◌≡◌, Bool, List, ℕ, zero, suc, ◌<◌, ◌≤◌, length}
use Rattle.paper.specs.Scan.{pick_n}
use Rattle.paper.specs.Links.{vertex_of, names}
use Rattle.walk.specs.Table.{valence_here, entry}
use Rattle.checks.specs.columns.Vertices.{last_here, leaving_here, arriving_here, count_here, noted}

-- one more than the highest number below n that passes the test; 0 where none does
unfoldable pub last_below : ℕ → (ℕ → Bool) → ℕ
last_below zero f = 0
last_below (suc n) f = pick_n (f n) (suc n) (last_below n f)

-- the earlier corner of the same vertex: 0 for none, else one more than the corner
abbrev pub earlier_of : List ℕ → ℕ → ℕ
earlier_of corners c = last_below c (names corners (vertex_of corners c))

-- that of each corner below `end`
unfoldable pub EarliersTo : List ℕ → (ℕ → ℕ) → ℕ → Type 0
EarliersTo corners earlier end = (c : ℕ) → c < end → earlier c ≡ earlier_of corners c

-- and of each corner of the vertices from u on
unfoldable pub EarliersFrom : List ℕ → (ℕ → ℕ) → ℕ → Type 0
EarliersFrom corners earlier u = (c : ℕ) → c < length corners → u ≤ vertex_of corners c → earlier c ≡ earlier_of corners c

-- the highest corner below `end` of each vertex, in the same way
unfoldable pub LastsTo : List ℕ → (ℕ → ℕ) → ℕ → Type 0
LastsTo corners last end = (u : ℕ) → last u ≡ last_below end (names corners u)

-- that of vertex u among all corners
abbrev pub last_of : List ℕ → ℕ → ℕ
last_of corners u = last_below (length corners) (names corners u)

-- `at` is 0, or one more than a corner of u
unfoldable pub Chain : List ℕ → ℕ → ℕ → Type 0
Chain corners u at = (d : ℕ) → at ≡ suc d → vertex_of corners d ≡ u

pub record Chained (corners : List ℕ) (earlier last : ℕ → ℕ) : Type 0 where
  pub earliers_are : EarliersTo corners earlier (length corners)
  pub lasts_are : LastsTo corners last (length corners)

-- a column of the table of vertices that is not used yet
abbrev pub Clear : List ℕ → ℕ → Type 0
Clear vertices k = (u : ℕ) → noted vertices k u ≡ 0

-- what check 9 leaves for the later ones: the chains, in the column that valences fill at last, and columns of zeros
pub record Ready (corners table vertices : List ℕ) : Type 0 where
  pub chained : Chained corners (entry table valence_here) (noted vertices last_here)
  pub leaving_clear : Clear vertices leaving_here
  pub arriving_clear : Clear vertices arriving_here
  pub count_clear : Clear vertices count_here
