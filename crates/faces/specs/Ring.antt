-- A refined face as the code goes round it: by a column of the table of corners, or by its three or four corners in turn. What its points are is said
-- of one axis, and then of the three.
use Rattle.std.specs.Prelude.{◌≡◌, List, ℕ, ◌+◌, ◌*◌, ◌≤◌, ◌<◌, length, ℤ}
use Rattle.paper.specs.Scan.{iterate}
use Rattle.paper.specs.Mesh.{least_sides, most_sides}
use Rattle.paper.specs.Numbers.{rounded}
use Rattle.paper.specs.Face.{centre, toward}
use Rattle.surface.specs.Points.{point_row, point_at}
use Rattle.surface.specs.Sizes.{RefinedSize, FaceSize}
use Rattle.walk.specs.Table.{row_length, entry}
use Rattle.faces.specs.declared.FacePoint.{FacePoint}

-- ---- the tables
-- the point of an axis after j steps from c by a column
unfoldable pub around : List ℤ → ℕ → List ℕ → ℕ → ℕ → ℕ → ℤ
around points axis table column c j = point_at points axis (iterate j (entry table column) c)

-- the table has a refined point for corner c: on an axis, and on the three
abbrev pub ReadableOn : List ℤ → ℕ → ℕ → Type 0
ReadableOn points axis c = (point_row * c + axis < length points) × RefinedSize (point_at points axis c)

abbrev pub Readable : List ℤ → ℕ → Type 0
Readable points c = ReadableOn points 0 c × ReadableOn points 1 c × ReadableOn points 2 c

-- the tables hold a ring of m corners at c
pub record Ring (points : List ℤ) (table : List ℕ) (column c m : ℕ) : Type 0 where
  pub count : ℕ
  pub here : c < count
  pub points_hold : (i : ℕ) → i < count → Readable points i
  pub table_holds : (i : ℕ) → i < count → row_length * i + column < length table
  pub step_in : (i : ℕ) → i < count → entry table column i < count
  pub closes : iterate m (entry table column) c ≡ c
  pub least : least_sides ≤ m
  pub most : m ≤ most_sides

-- ---- a point of a face, on one axis
-- r is the centre of the ring p of m points
pub record IsCentre (p : ℕ → ℤ) (m : ℕ) (r : ℤ) : Type 0 where
  pub is : r ≡ centre rounded p m
  pub size : RefinedSize r

-- r is its point towards the side from place i to the next
pub record IsToward (p : ℕ → ℤ) (m i : ℕ) (r : ℤ) : Type 0 where
  pub is : r ≡ toward rounded p m i
  pub size : FaceSize r

-- p is a ring of three points, or of four, in turn from its place i
pub record ThreeRing (v w x : ℤ) (p : ℕ → ℤ) (i : ℕ) : Type 0 where
  pub cyclic : (j : ℕ) → p (j + 3) ≡ p j
  pub first : p i ≡ v
  pub second : p (i + 1) ≡ w
  pub third : p (i + 2) ≡ x

pub record FourRing (v w x y : ℤ) (p : ℕ → ℤ) (i : ℕ) : Type 0 where
  pub cyclic : (j : ℕ) → p (j + 4) ≡ p j
  pub first : p i ≡ v
  pub second : p (i + 1) ≡ w
  pub third : p (i + 2) ≡ x
  pub fourth : p (i + 3) ≡ y

-- r is the centre of every such ring; its point towards the side from the first to the second
pub record ThreeCentre (v w x r : ℤ) : Type 0 where
  pub of : (p : ℕ → ℤ) (i : ℕ) → ThreeRing v w x p i → IsCentre p 3 r

pub record ThreeToward (v w x r : ℤ) : Type 0 where
  pub of : (p : ℕ → ℤ) (i : ℕ) → ThreeRing v w x p i → IsToward p 3 i r

pub record FourCentre (v w x y r : ℤ) : Type 0 where
  pub of : (p : ℕ → ℤ) (i : ℕ) → FourRing v w x y p i → IsCentre p 4 r

pub record FourToward (v w x y r : ℤ) : Type 0 where
  pub of : (p : ℕ → ℤ) (i : ℕ) → FourRing v w x y p i → IsToward p 4 i r

-- ---- on the three axes
pub record OnAxes (Is : ℕ → ℤ → Type 0) (r : FacePoint) : Type 0 where
  pub x : Is 0 r.x
  pub y : Is 1 r.y
  pub z : Is 2 r.z
