-- The other corner of an edge, direction ignored.
use Rattle.std.specs.Prelude.{Bool, not, ◌&&◌, List, ℕ, eqb, length}
use Rattle.paper.specs.Scan.{first_below}
use Rattle.paper.specs.Turning.{shares_edge}

-- g passes, and it is not c; the lowest such number
abbrev pub besides : (ℕ → Bool) → ℕ → ℕ → Bool
besides g c d = g d && not (eqb d c)

unfoldable pub other : ℕ → (ℕ → Bool) → ℕ → ℕ
other n g c = first_below n (besides g c)

-- the other corner of c's edge
unfoldable pub partner : List ℕ → List ℕ → ℕ → ℕ
partner sides corners c = other (length corners) (shares_edge sides corners c) c
