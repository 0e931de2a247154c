-- The tables of the faces: what filling them asks and gives.
use Rattle.std.specs.Prelude.{◌≡◌, List, ℕ, ◌<◌, ◌≤◌, length, get_or}
use Rattle.paper.specs.Mesh.{least_sides, most_faces, most_corners}
use Rattle.paper.specs.Corners.{sum_of, face_of, start_of}

-- what filling the faces and their starts asks, and gives for the faces below f
pub record Startable (sides faces starts : List ℕ) : Type 0 where
  pub few_faces : length sides ≤ most_faces
  pub few_corners : sum_of sides ≤ most_corners
  pub least : (f : ℕ) → f < length sides → least_sides ≤ get_or sides f 0
  pub faces_long : sum_of sides ≤ length faces
  pub starts_long : length sides ≤ length starts

pub record StartsTo (sides faces starts : List ℕ) (f : ℕ) : Type 0 where
  pub faces_are : (c : ℕ) → c < start_of sides f → get_or faces c 0 ≡ face_of sides c
  pub starts_are : (g : ℕ) → g < f → get_or starts g 0 ≡ start_of sides g

-- the corners of a face from `start` on, below c, have its number
pub record FaceNumbered (f start : ℕ) (old new : List ℕ) (c : ℕ) : Type 0 where
  pub filled : (d : ℕ) → start ≤ d → d < c → get_or new d 0 ≡ f
  pub kept : (d : ℕ) → d < start → get_or new d 0 ≡ get_or old d 0
