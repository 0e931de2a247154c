-- A refined point as a mean: Σ and three vertices, in grid steps, with weights that sum to 512.
use Rattle.std.specs.Prelude.{◌≡◌, List, ℕ, zero, suc, ◌+◌, ◌-◌, ◌*◌, ◌<◌, ◌≤◌, length, get_or, ℤ, pos, nat_abs, ◌+ℤ◌, ◌*ℤ◌}
use Rattle.paper.specs.Mesh.{least_sides, most_sides, most_corners, most_coordinate, most_sharpness, plain}
use Rattle.paper.specs.Numbers.{round}
use Rattle.numbers.specs.Units.{Reciprocal}
use Rattle.walk.specs.Table.{row_length, to_next, to_previous, entry}
use Rattle.face_sums.specs.Sums.{Placed, vertex_steps, face_sum_at}
use Rattle.corner_points.specs.RefinedPoints.{PointsPut}
use Rattle.corner_points.specs.declared.ThreeCorners.{ThreeCorners}
use Rattle.corner_points.specs.declared.CornerWeights.{CornerWeights}
use Rattle.corner_points.specs.declared.FaceSums.{FaceSums}

-- two sharpness numbers for each corner, within their limits
pub record Sharp (sharpness : List ℕ) (corners : ℕ) : Type 0 where
  pub pairs : 2 * corners ≤ length sharpness
  pub sixteenths : (i : ℕ) → get_or sharpness i plain ≤ most_sharpness

-- u and v of corner c stand in the list, and are within their limits
pub record Pair (sharpness : List ℕ) (c : ℕ) : Type 0 where
  pub long : 2 * c + 1 < length sharpness
  pub u_most : get_or sharpness (2 * c) plain ≤ most_sharpness
  pub v_most : get_or sharpness (2 * c + 1) plain ≤ most_sharpness

-- the weights of its u and v
unfoldable pub sharpness_weights : List ℕ → ℕ → CornerWeights
sharpness_weights sharpness c =
    let u = get_or sharpness (2 * c) plain in
    let v = get_or sharpness (2 * c + 1) plain in
    record { face = 2 * (16 - u) * (16 - v); before = (16 - u) * v; here = 16 * (u + v); after = u * (16 - v) }

-- they sum to 512
abbrev pub Balanced : CornerWeights → Type 0
Balanced w = w.face + w.before + w.here + w.after ≡ 512

-- m is the reciprocal of twice the n sides of a face
abbrev pub SideReciprocal : ℕ → ℕ → Type 0
SideReciprocal n m = Reciprocal (pos 2 *ℤ pos n) m

-- the sizes of what one refined point is computed from: coordinates within their limit, and as many of them in the sum as the face has sides
pub record Known (total : ℤ) (face : FaceSums) : Type 0 where
  pub least : least_sides ≤ face.sides
  pub most : face.sides ≤ most_sides
  pub reciprocal_is : SideReciprocal face.sides face.reciprocal
  pub total_size : nat_abs total ≤ face.sides * most_coordinate

pub record Steps (total before here after : ℤ) (face : FaceSums) : Type 0 where
  pub known : Known total face
  pub before_size : nat_abs before ≤ most_coordinate
  pub here_size : nat_abs here ≤ most_coordinate
  pub after_size : nat_abs after ≤ most_coordinate

-- 512n times the mean in grid steps, which is 2n times the mean in ticks; and the mean in ticks, rounded
abbrev pub blend : CornerWeights → ℤ → ℤ → ℤ → ℤ → ℕ → ℤ
blend w total before here after n =
    pos w.face *ℤ total +ℤ pos n *ℤ (pos w.before *ℤ before +ℤ pos w.here *ℤ here +ℤ pos w.after *ℤ after)

abbrev pub mean : CornerWeights → ℤ → ℤ → ℤ → ℤ → ℕ → ℤ
mean w total before here after n = round (blend w total before here after n) (pos 2 *ℤ pos n)

-- that of three corners on an axis
abbrev pub MeanOf : List ℤ → List ℕ → ℕ → ThreeCorners → CornerWeights → ℤ → ℕ → ℤ → Type 0
MeanOf coordinates corners axis around w total n r =
    let P = vertex_steps coordinates corners axis in r ≡ mean w total (P around.before) (P around.here) (P around.after) n

-- ---- what the corners of a face share: Σ on an axis, as it is read from the row of face f, and as large as it may be
abbrev pub total_on : FaceSums → ℕ → ℤ
total_on face zero = face.x
total_on face (suc zero) = face.y
total_on face (suc (suc axis)) = face.z

pub record FaceSumsRead (sides : List ℕ) (sums : List ℤ) (f : ℕ) (face : FaceSums) : Type 0 where
  pub sides_are : face.sides ≡ get_or sides f 0
  pub reciprocal_is : SideReciprocal face.sides face.reciprocal
  pub xs : face.x ≡ face_sum_at sums f 0
  pub ys : face.y ≡ face_sum_at sums f 1
  pub zs : face.z ≡ face_sum_at sums f 2

abbrev pub FaceKnown : FaceSums → Type 0
FaceKnown face = (axis : ℕ) → axis < 3 → Known (total_on face axis) face

-- ---- the refined points of corners
-- the other lists that they are computed from: the table leads from each corner to a previous and a next one
pub record CornerLists (coordinates : List ℤ) (corners sharpness table : List ℕ) : Type 0 where
  pub placed : Placed coordinates corners
  pub sharp : Sharp sharpness (length corners)
  pub few : length corners ≤ most_corners
  pub long : row_length * length corners ≤ length table
  pub previous_in : (c : ℕ) → c < length corners → entry table to_previous c < length corners
  pub next_in : (c : ℕ) → c < length corners → entry table to_next c < length corners

-- by what the corners of its face share, and the table of corners
abbrev pub face_point : List ℤ → List ℕ → List ℕ → List ℕ → FaceSums → ℕ → ℕ → ℤ
face_point coordinates corners sharpness table face axis c =
    let P = vertex_steps coordinates corners axis in
    mean (sharpness_weights sharpness c) (total_on face axis) (P (entry table to_previous c)) (P c) (P (entry table to_next c)) face.sides

-- that of one corner
abbrev pub CornerPointed : List ℤ → List ℕ → List ℕ → List ℕ → FaceSums → ℕ → List ℤ → List ℤ → Type 0
CornerPointed coordinates corners sharpness table face c = PointsPut (face_point coordinates corners sharpness table face) (λ d. d ≡ c)
