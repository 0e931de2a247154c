-- 01's corner: "A corner is a position in" the corner list, a number from 0 on. Here: a corner's face, its position there, and the next and previous corner
-- of the face, over the list of side counts. 01's walk goes from a corner to its next one, its previous one or its linked one: `next`, `previous`, and
-- `link` of Links.antt.
use Rattle.std.specs.Prelude.{List, [], ◌∷◌, ℕ, suc, ◌+◌, ◌-◌, ltb, eqb, get_or, take}
use Rattle.paper.specs.Scan.{pick_n}

unfoldable pub sum_of : List ℕ → ℕ
sum_of [] = 0
sum_of (s ∷ rest) = s + sum_of rest

-- the face of corner c
unfoldable pub face_of : List ℕ → ℕ → ℕ
face_of [] c = 0
face_of (s ∷ rest) c = let r = suc (face_of rest (c - s)) in pick_n (ltb c s) 0 r

-- the first corner of face f
unfoldable pub start_of : List ℕ → ℕ → ℕ
start_of sides f = sum_of (take f sides)

-- of c's face: the first corner, the side count, and c's position, counted from the first corner
unfoldable pub first_of : List ℕ → ℕ → ℕ
first_of sides c = start_of sides (face_of sides c)

unfoldable pub sides_of : List ℕ → ℕ → ℕ
sides_of sides c = get_or sides (face_of sides c) 0

abbrev pub position_of : List ℕ → ℕ → ℕ
position_of sides c = c - first_of sides c

-- the next and the previous corner of the face, cyclically
unfoldable pub next : List ℕ → ℕ → ℕ
next sides c = pick_n (ltb (position_of sides c + 1) (sides_of sides c)) (c + 1) (first_of sides c)

unfoldable pub previous : List ℕ → ℕ → ℕ
previous sides c = pick_n (eqb (position_of sides c) 0) (first_of sides c + sides_of sides c - 1) (c - 1)
