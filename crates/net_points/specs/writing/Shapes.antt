-- Which points a corner has of its own: their groups, where these start, and what each holds, from the net's 123 numbers alone.
use Rattle.std.specs.Prelude.{◌≡◌, List, ℕ, zero, suc, ◌+◌, ◌-◌, ◌*◌, ◌/◌, ◌%◌, ◌≤◌, ◌<◌, eqb, ltb, ℤ}
use Rattle.paper.specs.Scan.{pick_n}
use Rattle.paper.specs.Net.{side0, side1}
use Rattle.paper.specs.Sampling.{on_axis, sample_at, side_at}
use Rattle.paper.specs.Triangles.{groups, turn_weights}
use Rattle.net_points.specs.declared.writing.Shape.{Shape}

-- the numbers are in their bounds
pub record Shapely (s : Shape) : Type 0 where
  pub vertex : s.vertex ≤ 1
  pub edge : s.edge ≤ 1
  pub face : s.face ≤ 1
  pub some_first : 1 ≤ s.first
  pub few_first : s.first ≤ 16
  pub some_second : 1 ≤ s.second
  pub few_second : s.second ≤ 16
  pub some_level : 1 ≤ s.level
  pub few_level : s.level ≤ 16

-- ---- the sizes of the groups, and where they start
unfoldable pub shape_group : Shape → ℕ → ℕ
shape_group s zero = s.vertex
shape_group s (suc zero) = s.edge
shape_group s (suc (suc zero)) = s.face
shape_group s (suc (suc (suc zero))) = s.first - 1
shape_group s (suc (suc (suc (suc zero)))) = s.second - 1
shape_group s (suc (suc (suc (suc (suc k))))) = pick_n (ltb (k + 1) s.level) (4 * (s.level - (k + 1))) (pick_n (eqb (k + 1) s.level) 1 0)

abbrev pub shape_rings : Shape → ℕ
shape_rings s = s.vertex + s.edge + s.face + (s.first - 1) + (s.second - 1)

unfoldable pub shape_start : Shape → ℕ → ℕ
shape_start s zero = 0
shape_start s (suc zero) = s.vertex
shape_start s (suc (suc zero)) = s.vertex + s.edge
shape_start s (suc (suc (suc zero))) = s.vertex + s.edge + s.face
shape_start s (suc (suc (suc (suc zero)))) = s.vertex + s.edge + s.face + (s.first - 1)
shape_start s (suc (suc (suc (suc (suc k))))) = shape_rings s + 2 * (k * (2 * s.level - k - 1))

-- all of them
abbrev pub shape_size : Shape → ℕ
shape_size s = shape_rings s + 2 * (s.level * (s.level - 1)) + 1

-- ---- what the point at a place of a group holds: E0, E1 and E2 are points 0, 4 and 24 of the 41
unfoldable pub shape_number : List ℤ → Shape → ℕ → ℕ → ℕ → ℤ
shape_number numbers s zero place axis = on_axis numbers axis 0
shape_number numbers s (suc zero) place axis = on_axis numbers axis 4
shape_number numbers s (suc (suc zero)) place axis = on_axis numbers axis 24
shape_number numbers s (suc (suc (suc zero))) place axis = sample_at numbers side0 (turn_weights side0 s.first 0 (place + 1)) axis
shape_number numbers s (suc (suc (suc (suc zero)))) place axis = sample_at numbers side1 (turn_weights side1 s.second 0 (place + 1)) axis
shape_number numbers s (suc (suc (suc (suc (suc k))))) place axis =
    let w = s.level - suc k in sample_at numbers (side_at (place / w)) (turn_weights (side_at (place / w)) s.level (suc k) (place % w)) axis

-- a list of numbers that is to hold the corner's points from `at` on, and the places of these points
abbrev pub ShapeAim : List ℤ → Shape → ℕ → (ℕ → ℤ) → Type 0
ShapeAim numbers s at f =
    (g place axis : ℕ) → g < groups → place < shape_group s g → axis < 3 → f (at + 3 * (shape_start s g + place) + axis) ≡ shape_number numbers s g place axis

abbrev pub ShapePlace : Shape → ℕ → ℕ → Type 0
ShapePlace s at t =
    (g : ℕ) × (place : ℕ) × (axis : ℕ) × (g < groups) × (place < shape_group s g) × (axis < 3) × (t ≡ at + 3 * (shape_start s g + place) + axis)
