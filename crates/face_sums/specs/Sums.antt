-- The sums of faces: the lists that they are computed from, vertices and sums in grid steps, and what the table of sums holds.
use Rattle.std.specs.Prelude.{◌≡◌, List, ℕ, ◌+◌, ◌*◌, ◌<◌, ◌≤◌, ◌/◌, length, get_or, ℤ, pos, nat_abs, ◌*ℤ◌}
use Rattle.paper.specs.Mesh.{least_sides, most_sides, most_corners, most_coordinate, Mesh}
use Rattle.paper.specs.Corners.{sum_of, start_of}
use Rattle.paper.specs.Links.{vertex_of}
use Rattle.paper.specs.Numbers.{sum}
use Rattle.paper.specs.Refined.{ticks_per_step, face_sum}
use Rattle.mesh.specs.Tables.{Named}
use Rattle.face_sums.specs.Marks.{Tells, Needed}

-- side counts within their limits, and no more corners than a mesh may have
pub record FacesWithin (sides : List ℕ) : Type 0 where
  pub few : sum_of sides ≤ most_corners
  pub least : (f : ℕ) → f < length sides → least_sides ≤ get_or sides f 0
  pub most : (f : ℕ) → f < length sides → get_or sides f 0 ≤ most_sides

-- corners whose vertices have coordinates, within their limits
pub record Placed (coordinates : List ℤ) (corners : List ℕ) : Type 0 where
  pub named : Named corners (length coordinates / 3)
  pub within : (i : ℕ) → i < length coordinates → nat_abs (get_or coordinates i (pos 0)) ≤ most_coordinate

-- ---- in grid steps, of which one is 256 ticks: the vertex of a corner, the sum of n of them from `start` on, and Σ of face f
abbrev pub vertex_steps : List ℤ → List ℕ → ℕ → ℕ → ℤ
vertex_steps coordinates corners axis c = get_or coordinates (3 * vertex_of corners c + axis) (pos 0)

abbrev pub step_sum : List ℤ → List ℕ → ℕ → ℕ → ℕ → ℤ
step_sum coordinates corners start n axis = sum (λ j. vertex_steps coordinates corners axis (start + j)) n

abbrev pub face_steps : Mesh → ℕ → ℕ → ℤ
face_steps M f axis = step_sum M.coordinates M.corners (start_of M.sides f) (get_or M.sides f 0) axis

-- ---- the table of sums, with a row of three numbers for each face
abbrev pub sum_row : ℕ
sum_row = 3

abbrev pub face_sum_at : List ℤ → ℕ → ℕ → ℤ
face_sum_at sums f axis = get_or sums (sum_row * f + axis) (pos 0)

-- row f has the sums of n corners from `start` on, and what stands before it is as it was
pub record RowSummed (coordinates : List ℤ) (corners : List ℕ) (start n f : ℕ) (old new : List ℤ) : Type 0 where
  pub sums_are : (axis : ℕ) → axis < 3 → face_sum_at new f axis ≡ step_sum coordinates corners start n axis
  pub before : (i : ℕ) → i < sum_row * f → get_or new i (pos 0) ≡ get_or old i (pos 0)

-- L3: the table holds Σ of each of the first n faces that is needed, in grid steps, and `wanted` tells which are
pub record SumsAre (M : Mesh) (marked : List ℕ) (n : ℕ) (wanted : List ℕ) (sums : List ℤ) : Type 0 where
  pub told : (f : ℕ) → f < n → Tells (get_or wanted f 0) (Needed M.sides M.corners marked f)
  pub sums_are : (f axis : ℕ) → f < n → axis < 3 → Needed M.sides M.corners marked f → pos ticks_per_step *ℤ face_sum_at sums f axis ≡ face_sum M axis f
