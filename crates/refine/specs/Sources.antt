-- What refined points are computed from, which an accepted mesh gives, and what the loop over corners is told of the table of sums.
use Rattle.std.specs.Prelude.{◌≡◌, List, ℕ, ◌*◌, ◌<◌, ◌≤◌, length, get_or, ℤ, nat_abs}
use Rattle.paper.specs.Mesh.{most_coordinate, Mesh, corner_count}
use Rattle.paper.specs.Corners.{sum_of, face_of}
use Rattle.face_sums.specs.Marks.{AtMark}
use Rattle.face_sums.specs.Sums.{FacesWithin, Placed, sum_row, face_sum_at}
use Rattle.corner_points.specs.Mean.{Sharp}

-- what refined points are computed from
pub record Refinable (M : Mesh) : Type 0 where
  pub faces : FacesWithin M.sides
  pub sums : sum_of M.sides ≡ corner_count M
  pub placed : Placed M.coordinates M.corners
  pub sharp : Sharp M.sharpness (corner_count M)

-- what the loop over corners is told of the tables: their lengths, and how large the rows may be that it reads
pub record SumsFit (sides wanted : List ℕ) (sums : List ℤ) : Type 0 where
  pub wanted_long : length sides ≤ length wanted
  pub sums_long : sum_row * length sides ≤ length sums
  pub sizes : (f axis : ℕ) → f < length sides → axis < 3 → 0 < get_or wanted f 0 → nat_abs (face_sum_at sums f axis) ≤ get_or sides f 0 * most_coordinate

-- a face with a corner at a marked vertex has a nonzero entry in `wanted`
abbrev pub Covered : List ℕ → List ℕ → List ℕ → List ℕ → Type 0
Covered sides corners marked wanted = (c : ℕ) → c < length corners → AtMark corners marked c → 0 < get_or wanted (face_of sides c) 0
