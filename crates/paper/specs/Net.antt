-- From corner to 41 points, one coordinate: the quad-net of a corner c, one definition for its four sides.
use Rattle.std.specs.Prelude.{List, [], ◌∷◌, ◌++◌, ℕ, zero, suc, ◌+◌, ◌-◌, ◌*◌, ◌%◌, ℤ, pos, ◌-ℤ◌, ◌*ℤ◌}
use Rattle.paper.specs.Scan.{iterate}
use Rattle.paper.specs.Numbers.{Numbers}
use Rattle.paper.specs.Cosines.{unit, cosine}
use Rattle.paper.specs.Refined.{Corners, RefinedMesh}
use Rattle.paper.specs.Face.{centre, toward}

-- ---- 01's ends of a quad-net: E0, centre of the vertex's refined face, E1, of the leaving edge's, E2, of the face's, and E3, of the arriving edge's; and its
-- sides 0 to 3
pub data End : Type 0 where
  vertex leaving face arriving : End

pub data Side : Type 0 where
  side0 side1 side2 side3 : Side

-- ---- the table of sides
abbrev pub head : Side → End
head side0 = vertex
head side1 = face
head side2 = face
head side3 = vertex

abbrev pub tail : Side → End
tail side0 = leaving
tail side1 = leaving
tail side2 = arriving
tail side3 = arriving

abbrev pub neighbour : Corners → ℕ → Side → ℕ
neighbour K c side0 = K.link c
neighbour K c side1 = K.next c
neighbour K c side2 = K.previous c
neighbour K c side3 = K.previous (K.link (K.previous c))

abbrev pub across : Side → Side
across side0 = side3
across side1 = side2
across side2 = side1
across side3 = side0

-- the other side at the head, at the tail, and the opposite side
abbrev pub at_head : Side → Side
at_head side0 = side3
at_head side1 = side2
at_head side2 = side1
at_head side3 = side0

abbrev pub at_tail : Side → Side
at_tail side0 = side1
at_tail side1 = side0
at_tail side2 = side3
at_tail side3 = side2

abbrev pub opposite : Side → Side
opposite side0 = side2
opposite side1 = side3
opposite side2 = side0
opposite side3 = side1

-- ---- the refined faces round a corner: how many corners, and the j-th one
abbrev pub pick : ℕ → ℕ → ℕ → ℕ → ℕ → ℕ
pick p q r s zero = p
pick p q r s (suc zero) = q
pick p q r s (suc (suc zero)) = r
pick p q r s (suc (suc (suc j))) = s

-- the four-sided face of the leaving edge of c
unfoldable pub quad : Corners → ℕ → ℕ → ℕ
quad K c j = pick c (K.next c) (K.previous (K.link c)) (K.link c) (j % 4)

abbrev pub size : Corners → ℕ → End → ℕ
size K c vertex = K.valence c
size K c leaving = 4
size K c face = K.sides c
size K c arriving = 4

abbrev pub ring : Corners → ℕ → End → ℕ → ℕ
ring K c vertex j = iterate j K.link c
ring K c leaving j = quad K c j
ring K c face j = iterate j K.next c
ring K c arriving j = quad K (K.previous c) j

-- the refined edge between the corner and the side's neighbour runs from this place of the ring to the next
abbrev pub head_place : Corners → ℕ → Side → ℕ
head_place K c side0 = 0
head_place K c side1 = 0
head_place K c side2 = K.sides c - 1
head_place K c side3 = K.valence c - 1

abbrev pub tail_place : Side → ℕ
tail_place side0 = 3
tail_place side1 = 0
tail_place side2 = 0
tail_place side3 = 1

abbrev pub rows : {A : Type 0} → List (List A) → List A
rows [] = []
rows (r ∷ g) = r ++ rows g

-- ---- the quad-net of corner c of a refined mesh, in the numbers S
module _ {S : Numbers} (K : RefinedMesh S) (c : ℕ) where
  infixl 7 ◌·◌ ◌÷◌
  infixl 6 ◌⊕◌ ◌⊖◌
  open S use {Number, ◌⊕◌, ◌⊖◌, ◌·◌, ◌÷◌}

  abbrev pub points : End → ℕ → Number
  points e j = K.point (ring K.corners c e j)

  -- an end is the centre of its refined face
  abbrev pub end : End → Number
  end e = centre S (points e) (size K.corners c e)

  -- ---- of a side, by 01's letters
  -- H: the head, an end
  unfoldable pub H : Side → Number
  H s = end (head s)

  -- T: the tail, the other end
  unfoldable pub T : Side → Number
  T s = end (tail s)

  -- X: the head face's point towards the refined edge from the corner's refined point V to the neighbour's
  unfoldable pub X : Side → Number
  X s = toward S (points (head s)) (size K.corners c (head s)) (head_place K.corners c s)

  -- Y: the tail face's point towards the same edge
  unfoldable pub Y : Side → Number
  Y s = toward S (points (tail s)) (size K.corners c (tail s)) (tail_place s)

  -- N: the inner point, r((3X + 3Y + V - V̂) / 6), where V̂ is the neighbour's refined point
  unfoldable pub N : Side → Number
  N s = (pos 3 · X s ⊕ pos 3 · Y s ⊕ K.point c ⊖ K.point (neighbour K.corners c s)) ÷ 6

  -- X*: X of the other side at the head
  abbrev pub X* : Side → Number
  X* s = X (at_head s)

  -- Y*: Y of the other side at the tail
  abbrev pub Y* : Side → Number
  Y* s = Y (at_tail s)

  -- C: C(m,1) of the cosine table, for the head face of m points
  unfoldable pub C : Side → ℤ
  C s = cosine (size K.corners c (head s)) 1

  -- ---- outer row: H, then these three, then T
  unfoldable pub outer1 : Side → Number
  outer1 s = (H s ⊕ pos 3 · X s) ÷ 4

  unfoldable pub outer2 : Side → Number
  outer2 s = (X s ⊕ Y s) ÷ 2

  unfoldable pub outer3 : Side → Number
  outer3 s = (pos 3 · Y s ⊕ T s) ÷ 4

  -- ---- a row: 2^32 and 2^33 are 4 and 8 units
  unfoldable pub a0 : Side → Number
  a0 s = (outer1 s ⊕ outer1 (at_head s)) ÷ 2

  unfoldable pub a1 : Side → Number
  a1 s = (C s · H s ⊕ (pos 3 *ℤ (pos unit -ℤ C s)) · X s ⊕ (pos 2 *ℤ C s) · Y s ⊕ pos unit · X* s ⊕ pos (4 * unit) · N s) ÷ (8 * unit)

  unfoldable pub a2 : Side → Number
  a2 s = ((pos (3 * unit) -ℤ C s) · Y s ⊕ C s · T s ⊕ pos (4 * unit) · N s ⊕ pos unit · Y* s) ÷ (8 * unit)

  unfoldable pub a3 : Side → Number
  a3 s = (outer3 s ⊕ outer3 (at_tail s)) ÷ 2

  -- ---- middle of the next row
  unfoldable pub middle : Side → Number
  middle s = (pos 14 · N s ⊕ pos 2 · (N (opposite s) ⊖ N (at_head s) ⊖ N (at_tail s)) ⊕ pos 3 · (X* s ⊕ Y* s) ⊖ H s ⊖ T s) ÷ 16

  -- ---- one step in from the ends: b at the side's head and tail, a beside the centre at its head and tail
  unfoldable pub b_head : Side → Number
  b_head s = (a1 (at_head s) ⊕ a1 s) ÷ 2

  unfoldable pub b_tail : Side → Number
  b_tail s = (a2 s ⊕ a2 (at_tail s)) ÷ 2

  unfoldable pub a_head : Side → Number
  a_head s = (middle s ⊕ middle (at_head s)) ÷ 2

  unfoldable pub a_tail : Side → Number
  a_tail s = (middle s ⊕ middle (at_tail s)) ÷ 2

  unfoldable pub b22 : Number
  b22 = (a_tail side0 ⊕ a_tail side3) ÷ 2

  -- ---- the two grids, row by row
  unfoldable pub b_grid : List (List Number)
  b_grid =
      (H side0 ∷ outer1 side0 ∷ outer2 side0 ∷ outer3 side0 ∷ T side0 ∷ [])
      ∷ (outer1 side3 ∷ b_head side0 ∷ middle side0 ∷ b_tail side0 ∷ outer3 side1 ∷ [])
      ∷ (outer2 side3 ∷ middle side3 ∷ b22 ∷ middle side1 ∷ outer2 side1 ∷ [])
      ∷ (outer3 side3 ∷ b_tail side3 ∷ middle side2 ∷ b_head side1 ∷ outer1 side1 ∷ [])
      ∷ (T side3 ∷ outer3 side2 ∷ outer2 side2 ∷ outer1 side2 ∷ H side2 ∷ [])
      ∷ []

  unfoldable pub a_grid : List (List Number)
  a_grid =
      (a0 side0 ∷ a1 side0 ∷ a2 side0 ∷ a3 side0 ∷ [])
      ∷ (a1 side3 ∷ a_head side0 ∷ a_tail side0 ∷ a2 side1 ∷ [])
      ∷ (a2 side3 ∷ a_tail side3 ∷ a_head side1 ∷ a1 side1 ∷ [])
      ∷ (a3 side3 ∷ a2 side2 ∷ a1 side2 ∷ a0 side2 ∷ [])
      ∷ []

  -- ---- the 41 points in the order of the output: five rows of five b, then four rows of four a
  unfoldable pub net : List Number
  net = rows b_grid ++ rows a_grid

-- ---- the 41 points p of a quad-net by their names: b[i][j] and a[i][j]
abbrev pub net_points : ℕ
net_points = 41

module _ {A : Type 0} (p : ℕ → A) where
  abbrev pub b : ℕ → ℕ → A
  b i j = p (5 * i + j)

  abbrev pub a : ℕ → ℕ → A
  a i j = p (25 + 4 * i + j)

  -- outer row and a row along a side, from its head
  abbrev pub outer_row : Side → ℕ → A
  outer_row side0 j = b 0 j
  outer_row side1 j = b (4 - j) 4
  outer_row side2 j = b 4 (4 - j)
  outer_row side3 j = b j 0

  abbrev pub a_row : Side → ℕ → A
  a_row side0 j = a 0 j
  a_row side1 j = a (3 - j) 3
  a_row side2 j = a 3 (3 - j)
  a_row side3 j = a j 0
