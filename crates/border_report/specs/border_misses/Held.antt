-- A corner's numbers in a list, and the misses that are read from such lists.
use Rattle.std.specs.Prelude.{◌≡◌, List, ℕ, zero, suc, ◌+◌, ◌*◌, ◌<◌, ◌≤◌, max, length, get_or, ℤ, pos, nat_abs}
use Rattle.paper.specs.Numbers.{rounded}
use Rattle.paper.specs.Refined.{RefinedMesh}
use Rattle.paper.specs.Net.{Side, side0, side1, neighbour, across, H, T, X, Y, C, net, net_points, outer_row, a_row}
use Rattle.paper.specs.Calls.{per_corner}
use Rattle.paper.specs.Report.{conditions, condition, largest_below}
use Rattle.surface.specs.Points.{point_row}
use Rattle.surface.specs.Sizes.{WrittenSize}
use Rattle.walk.specs.Table.{to_next, entry}
use Rattle.net_rows.specs.declared.sides.NetSides.{NetSides}
use Rattle.net_rows.specs.sides.Values.{FourSides}
use Rattle.net.specs.stencil.Taken.{Run}

-- point k on an axis, of the numbers from `at` on
abbrev pub point_in : List ℤ → ℕ → ℕ → ℕ → ℤ
point_in numbers at axis k = get_or numbers (at + 3 * k + axis) (pos 0)

-- the list has that many numbers, and those on an axis are small
pub record SmallOn (numbers : List ℤ) (at axis : ℕ) : Type 0 where
  pub long : at + per_corner ≤ length numbers
  pub small : (k : ℕ) → k < net_points → WrittenSize (point_in numbers at axis k)

-- the points on an axis are those of corner c
pub record NetHeld (K : RefinedMesh rounded) (c axis : ℕ) (numbers : List ℤ) (at : ℕ) : Type 0 where
  pub points_are : (k : ℕ) → k < net_points → point_in numbers at axis k ≡ get_or (net K c) k (pos 0)
  pub small : SmallOn numbers at axis

abbrev pub NetHeldAll : (ℕ → RefinedMesh rounded) → ℕ → List ℤ → ℕ → Type 0
NetHeldAll K c numbers at = (axis : ℕ) → axis < 3 → NetHeld (K axis) c axis numbers at

-- the k corners from `start` on are those of a face, in turn
pub record WholeFace (table : List ℕ) (n start k : ℕ) : Type 0 where
  pub some : 0 < k
  pub within : start + k ≤ n
  pub run : Run table start k
  pub round : (j : ℕ) → j + 1 ≡ k → entry table to_next (start + j) ≡ start

-- the rows of a face's ring are as before
abbrev pub FaceKept : List ℤ → List ℤ → Type 0
FaceKept old new = (i : ℕ) → point_row * 10 ≤ i → get_or new i (pos 0) ≡ get_or old i (pos 0)

-- four of a list's points
abbrev pub four_of : (ℕ → ℤ) → ℕ → ℕ → ℕ → ℕ → ℕ → ℤ
four_of f p q r s zero = f p
four_of f p q r s (suc zero) = f q
four_of f p q r s (suc (suc zero)) = f r
four_of f p q r s (suc (suc (suc j))) = f s

-- by how much condition j is missed at a side on one axis, of the nets of a mesh
abbrev pub net_point : RefinedMesh rounded → ℕ → ℕ → ℤ
net_point K c k = get_or (net K c) k (pos 0)

unfoldable pub net_miss : RefinedMesh rounded → ℕ → ℕ → Side → ℕ
net_miss K j c s =
    nat_abs
    (condition j (H K c s) (T K c s) (X K c s) (Y K c s) (C K c s) (outer_row (net_point K c) s j) (a_row (net_point K c) s j)
    (a_row (net_point K (neighbour K.corners c s)) (across s) j))

-- at sides 0 and 1 of a corner, on all axes
unfoldable pub corner_miss : (ℕ → RefinedMesh rounded) → ℕ → ℕ → ℕ
corner_miss K j c = largest_below 3 (λ axis. max (net_miss (K axis) j c side0) (net_miss (K axis) j c side1))

-- the misses of sides 0 and 1 on an axis, at whichever corner has these sides and these numbers
abbrev pub AxisMisses : NetSides → ℕ → List ℤ → ℕ → List ℤ → ℕ → List ℕ → Type 0
AxisMisses s axis face here linked next r =
    (K : RefinedMesh rounded) (c : ℕ) → FourSides K c s → NetHeld K c axis face here → NetHeld K (K.corners.link c) axis linked 0
    → NetHeld K (K.corners.next c) axis face next → (j : ℕ) → j < conditions → get_or r j 0 ≡ max (net_miss K j c side0) (net_miss K j c side1)
