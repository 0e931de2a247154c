-- Turned faces, written in place.
use Rattle.std.specs.Prelude.{◌≡◌, Bool, List, ℕ, ◌+◌, ◌-◌, ◌*◌, ◌<◌, ◌≤◌, length, get_or}
use Rattle.paper.specs.Mesh.{least_sides, most_faces, most_corners}
use Rattle.paper.specs.Corners.{sum_of}
use Rattle.paper.specs.File.{begins}
use Rattle.paper.specs.Turning.{turned_corners, faces_of}

-- the entries from `from` to `to` stand in reverse order; the others stay
pub record Reversed (from to : ℕ) (old new : List ℕ) : Type 0 where
  pub inner : (d : ℕ) → from ≤ d → d < to → get_or new d 0 ≡ get_or old (from + to - 1 - d) 0
  pub before : (d : ℕ) → d < from → get_or new d 0 ≡ get_or old d 0
  pub after : (d : ℕ) → to ≤ d → get_or new d 0 ≡ get_or old d 0

-- the pairs of a face, two numbers for each corner: they go with their corners, and the two change places
pub record PairsTurned (start end : ℕ) (old new : List ℕ) : Type 0 where
  pub first : (j : ℕ) → j < 2 → get_or new (2 * start + j) 0 ≡ get_or old (2 * start + (1 - j)) 0
  pub later : (d j : ℕ) → start < d → d < end → j < 2 → get_or new (2 * d + j) 0 ≡ get_or old (2 * (start + end - d) + (1 - j)) 0
  pub before : (i : ℕ) → i < 2 * start → get_or new i 0 ≡ get_or old i 0
  pub after : (i : ℕ) → 2 * end ≤ i → get_or new i 0 ≡ get_or old i 0

-- the corners after the first one of a face, from `start` to `end`, stand in reverse order; the others stay
pub record FaceTurned (start end : ℕ) (old new : List ℕ) : Type 0 where
  pub turned : (d : ℕ) → start < d → d < end → get_or new d 0 ≡ get_or old (start + end - d) 0
  pub before : (d : ℕ) → d ≤ start → get_or new d 0 ≡ get_or old d 0
  pub after : (d : ℕ) → end ≤ d → get_or new d 0 ≡ get_or old d 0

-- what writing asks
pub record Writable (sides states corners listing : List ℕ) : Type 0 where
  pub few_faces : length sides ≤ most_faces
  pub few_corners : length corners ≤ most_corners
  pub least : (f : ℕ) → f < length sides → least_sides ≤ get_or sides f 0
  pub sums : sum_of sides ≡ length corners
  pub states_long : length sides ≤ length states
  pub listing_long : length listing ≡ length sides

-- and gives: the model with the faces of t turned, these at the beginning of the listing, and how many they are
pub record Written (t : ℕ → Bool) (sides corners listing : List ℕ) (count : ℕ) (corners' listing' : List ℕ) : Type 0 where
  pub counts : count ≡ length (faces_of t 0 (length sides))
  pub corners_are : corners' ≡ turned_corners sides corners t
  pub listing_is : listing' ≡ begins (faces_of t 0 (length sides)) listing

-- what writing the sharpness pairs asks
pub record Sharpenable (sides states pairs : List ℕ) : Type 0 where
  pub few_faces : length sides ≤ most_faces
  pub few_corners : sum_of sides ≤ most_corners
  pub least : (f : ℕ) → f < length sides → least_sides ≤ get_or sides f 0
  pub sums : 2 * sum_of sides ≡ length pairs
  pub states_long : length sides ≤ length states
