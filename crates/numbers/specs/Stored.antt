-- The cosine table as the code's array holds it.
use Rattle.std.specs.Prelude.{List, [], ◌∷◌, ◌++◌, take, replicate, ℤ, pos}
use Rattle.paper.specs.Mesh.{most_sides}
use Rattle.paper.specs.Cosines.{table}

-- the array of the code: as many places a row as the last row has, zeros after the row's numbers
abbrev padded : List (List ℤ) → List (List ℤ)
padded [] = []
padded (r ∷ rows) = take most_sides (r ++ replicate most_sides (pos 0)) ∷ padded rows

unfoldable pub stored : List (List ℤ)
stored = padded table
