-- What the walks around a vertex answer.
use Rattle.std.specs.Prelude.{◌≡◌, List, ℕ, suc, ◌*◌, ◌<◌, ◌≤◌, eqb, ltb, length}
use Rattle.paper.specs.Scan.{pick_n, first_below, iterate}
use Rattle.paper.specs.Mesh.{least_sides}
use Rattle.paper.specs.Links.{link, valence}
use Rattle.paper.specs.Faults.{◌or_else◌, lowest_of, fault12, fault13, stated, Answer}
use Rattle.mesh.specs.Closed.{Closed}
use Rattle.walk.specs.Table.{row_length, to_link, entry, Column}

-- the steps until the start comes back, within a bound; 0 where it does not
unfoldable pub ring_within : (ℕ → ℕ) → ℕ → ℕ → ℕ
ring_within step start bound =
    let p = first_below bound (λ j. eqb (iterate (suc j) step start) start) in
    pick_n (ltb p bound) (suc p) 0

-- a table whose links lead to corners, of which there are n
pub record Linking (table : List ℕ) (n : ℕ) : Type 0 where
  pub long : row_length * n ≤ length table
  pub links_in : (c : ℕ) → c < n → entry table to_link c < n

-- vertices that have corners
abbrev pub Cornered : List ℕ → ℕ → Type 0
Cornered corners count = (u : ℕ) → u < count → least_sides ≤ valence corners u

-- what check 13 answers, for all side counts that the links belong to
abbrev pub Ringed : List ℕ → List ℕ → ℕ → Answer → Type 0
Ringed corners table count r =
    (sides : List ℕ) → Closed sides corners → Column table to_link (link sides corners) (length corners)
    → stated r ≡ lowest_of 13 count (fault13 sides corners)

-- checks 12 and 13, likewise
abbrev pub VerticesChecked : List ℕ → ℕ → List ℕ → Answer → Type 0
VerticesChecked corners count table r =
    (sides : List ℕ) → Closed sides corners → Column table to_link (link sides corners) (length corners)
    → stated r ≡ lowest_of 12 count (fault12 corners) or_else lowest_of 13 count (fault13 sides corners)
