-- The rows that a net is made from, four numbers each: x, y, z and one that is not used. A lane is one place of each row. The first seven rows are
-- of the corners around, three are of the vertex's ring, and from the tenth on they are of the face's.
use Rattle.std.specs.Prelude.{◌≡◌, List, ℕ, ◌+◌, ◌*◌, ◌≤◌, ◌<◌, length, get_or, ℤ, pos}
use Rattle.paper.specs.Scan.{iterate}
use Rattle.paper.specs.Mesh.{most_sides}
use Rattle.paper.specs.Numbers.{rounded}
use Rattle.paper.specs.Refined.{RefinedMesh}
use Rattle.paper.specs.Net.{side0, side1, side3, H, X}
use Rattle.surface.specs.Points.{point_row, point_at}
use Rattle.surface.specs.Sizes.{RefinedSize}
use Rattle.walk.specs.Table.{to_next, entry}
use Rattle.net_rows.specs.sides.Values.{corners_around}

-- the numbers that are not used are no larger than others: the lanes reckon with them too
abbrev pub Quiet : List ℤ → Type 0
Quiet rows = (i : ℕ) → RefinedSize (point_at rows 3 i)

-- a run of corners of one face: each but the last is followed by the next of its face
pub record Run (table : List ℕ) (c run : ℕ) : Type 0 where
  pub short : run ≤ most_sides
  pub along : (r : ℕ) → r + 1 < run → entry table to_next (c + r) ≡ c + r + 1

-- the rows of the face's ring: its centre, and the points towards n of its sides, from the one that arrives at c on
pub record FaceTaken (K : ℕ → RefinedMesh rounded) (c n : ℕ) (old new : List ℤ) : Type 0 where
  pub same : length new ≡ length old
  pub centre : (a : ℕ) → a < 3 → point_at new a 10 ≡ H (K a) c side1
  pub toward : (r : ℕ) → r < n → (a : ℕ) → a < 3 → point_at new a (11 + r) ≡ X (K a) (iterate r (K a).corners.next ((K a).corners.previous c)) side1
  pub fourth : (i : ℕ) → point_at new 3 i ≡ point_at old 3 i

-- the rows of the vertex's ring: its centre, and the points towards the sides at c; the rows after them are as before
pub record VertexTaken (K : ℕ → RefinedMesh rounded) (c : ℕ) (old new : List ℤ) : Type 0 where
  pub same : length new ≡ length old
  pub centre : (a : ℕ) → a < 3 → point_at new a 7 ≡ H (K a) c side0
  pub behind : (a : ℕ) → a < 3 → point_at new a 8 ≡ X (K a) c side3
  pub ahead : (a : ℕ) → a < 3 → point_at new a 9 ≡ X (K a) c side0
  pub fourth : (i : ℕ) → point_at new 3 i ≡ point_at old 3 i
  pub after : (i : ℕ) → point_row * 10 ≤ i → get_or new i (pos 0) ≡ get_or old i (pos 0)

-- row i has the four numbers of corner c, and the others are as before
pub record WholeTaken (points : List ℤ) (c i : ℕ) (old new : List ℤ) : Type 0 where
  pub same : length new ≡ length old
  pub row : (k : ℕ) → k < 4 → point_at new k i ≡ point_at points k c
  pub before : (n : ℕ) → n < point_row * i → get_or new n (pos 0) ≡ get_or old n (pos 0)
  pub after : (n : ℕ) → point_row * i + 4 ≤ n → get_or new n (pos 0) ≡ get_or old n (pos 0)

-- the rows of the corners around c and of its vertex's ring; those of the face are as before
pub record CornerTaken (K : ℕ → RefinedMesh rounded) (c : ℕ) (old new : List ℤ) : Type 0 where
  pub same : length new ≡ length old
  pub points : (i : ℕ) → i < 7 → (a : ℕ) → a < 3 → point_at new a i ≡ (K a).point (get_or (corners_around (K a).corners c) i 0)
  pub centre : (a : ℕ) → a < 3 → point_at new a 7 ≡ H (K a) c side0
  pub behind : (a : ℕ) → a < 3 → point_at new a 8 ≡ X (K a) c side3
  pub ahead : (a : ℕ) → a < 3 → point_at new a 9 ≡ X (K a) c side0
  pub quiet : Quiet old → Quiet new
  pub after : (i : ℕ) → point_row * 10 ≤ i → get_or new i (pos 0) ≡ get_or old i (pos 0)
