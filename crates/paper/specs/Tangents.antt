-- Beyond the requests: the two tangents of a patch at a sample, for shading, and those of the whole surface's points. They are the derivatives of the quartic at
-- weights i/N, j/N, k/N. The first goes towards the side's tail: by the tail's weight, where the head's weight falls as it rises. The second goes towards the
-- centre: by the centre's weight, where the head's weight falls as it rises. Times N^3 they are whole numbers, so that nothing is rounded: four times the cubic
-- Bernstein sum of the differences between control points that lie next to each other.
use Rattle.std.specs.Prelude.{◌≡◌, List, ◌++◌, ℕ, ◌+◌, ◌-◌, ◌*◌, ◌/◌, ◌%◌, ◌^◌, ltb, eqb, length, get_or, ℤ, pos, ◌-ℤ◌, ◌*ℤ◌, IfOk}
use Rattle.paper.specs.Scan.{pick_n, values_from}
use Rattle.paper.specs.Mesh.{Mesh}
use Rattle.paper.specs.Corners.{face_of, position_of}
use Rattle.paper.specs.Faults.{Verdict, ◌or_else◌, single, stated, kept, Answered, Answer, Told}
use Rattle.paper.specs.Numbers.{sum}
use Rattle.paper.specs.Net.{Side}
use Rattle.paper.specs.Calls.{nets}
use Rattle.paper.specs.File.{no_room, begins}
use Rattle.paper.specs.Floats.{axes}
use Rattle.paper.specs.Sampling.{control, factorial, on_axis, Weights, sample_verdict, side_at}
use Rattle.paper.specs.Triangles.{turn_weights, groups, level, segments, point_groups, owned, points_before, level_verdict}

-- ---- the cubic Bernstein sum: the difference beside the powers l, m, n of the three weights, which sum to 3, counts 3!/(l! m! n!) times
unfoldable pub cubic_bernstein : ℕ → ℕ → ℕ → ℕ → ℕ → ℕ → ℕ
cubic_bernstein i j k l m n = factorial 3 / (factorial l * factorial m * factorial n) * (i ^ l * j ^ m * k ^ n)

-- row n has the differences with power n of the third weight, from the head those with power 0, 1, .. of the second
unfoldable pub cubic_bernstein_sum : (ℕ → ℕ → ℤ) → ℕ → ℕ → ℕ → ℤ
cubic_bernstein_sum d i j k = sum (λ n. sum (λ m. pos (cubic_bernstein i j k (3 - n - m) m n) *ℤ d n m) (4 - n)) 4

-- ---- the differences: from a control point to the next one of its row, and to the one at the same place of the next row
unfoldable pub along : (ℕ → ℤ) → Side → ℕ → ℕ → ℤ
along p s n m = control p s n (m + 1) -ℤ control p s n m

unfoldable pub inward : (ℕ → ℤ) → Side → ℕ → ℕ → ℤ
inward p s n m = control p s (n + 1) m -ℤ control p s n m

-- ---- the tangents on an axis, towards the tail and towards the centre
unfoldable pub tangent_along : List ℤ → Side → Weights → ℕ → ℤ
tangent_along numbers s w axis = pos 4 *ℤ cubic_bernstein_sum (along (on_axis numbers axis) s) w.head w.tail w.centre

unfoldable pub tangent_inward : List ℤ → Side → Weights → ℕ → ℤ
tangent_inward numbers s w axis = pos 4 *ℤ cubic_bernstein_sum (inward (on_axis numbers axis) s) w.head w.tail w.centre

-- both as six numbers: x, y, z towards the tail, then x, y, z towards the centre. The tail of a side is that of the side across it, so that along a common
-- curve the first tangent is the same from both nets. Sides 0 and 2 run from head to tail in the direction of the mesh's faces, sides 1 and 3 against it: so on
-- sides 1 and 3 the cross product of the two tangents points the other way
unfoldable pub tangent_pair : List ℤ → Side → Weights → List ℤ
tangent_pair numbers s w =
    axes (tangent_along numbers s w 0) (tangent_along numbers s w 1) (tangent_along numbers s w 2)
    ++ axes (tangent_inward numbers s w 0) (tangent_inward numbers s w 1) (tangent_inward numbers s w 2)

-- how large their numbers are at most (`TangentsWithin`)
abbrev pub most_tangent : ℕ
most_tangent = 2 ^ 42

-- ---- a call for the tangents at one sample, under the checks of a sample, with six lent numbers that held `old`: it writes both
abbrev pub TangentsSampled : List ℤ → ℕ → Weights → List ℤ → Answer → List ℤ → Type 0
TangentsSampled numbers side w old = Answered (sample_verdict numbers side w) (tangent_pair numbers (side_at side) w) old

-- ---- the tangents of the surface's points, which have the levels as `Triangles` has them
module _ (M : Mesh) (levels : List ℕ) where
  -- number e of the six at place j of row k of side s of a corner's net
  unfoldable pub tangent_number : ℕ → Side → ℕ → ℕ → ℕ → ℤ
  tangent_number c s k j e =
      let N = pick_n (eqb k 0) (segments M levels c s) (level levels c) in get_or (tangent_pair (nets M c 1) s (turn_weights s N k j)) e (pos 0)

  -- of the point at a place of a group, from the side, the row and the place in it from which its owner samples it: so a point has one pair of tangents, and
  -- the nets that share it one normal there
  unfoldable pub own_tangent : ℕ → ℕ → ℕ → ℕ → ℤ
  own_tangent c group place = owned M levels (tangent_number c) c group place

  -- number x of the list of tangents, six numbers for each point, in the order of the points: number x % 6 of point x / 6
  unfoldable pub tangent_at : ℕ → ℤ
  tangent_at x =
      let g = face_of (point_groups M levels) (x / 6) in own_tangent (g / groups) (g % groups) (position_of (point_groups M levels) (x / 6)) (x % 6)

  -- the part of the list that belongs to `count` corners from `first` on
  unfoldable pub tangent_list : ℕ → ℕ → List ℤ
  tangent_list first count = values_from tangent_at (6 * points_before M levels first) (6 * (points_before M levels (first + count) - points_before M levels first))

-- the checks of the triangles, then 255: the lent list has no room (place: the length that it needs)
unfoldable pub tangent_verdict : Mesh → List ℕ → ℕ → ℕ → List ℕ → ℕ → Verdict
tangent_verdict M links first count levels room =
    level_verdict M links first count levels
    or_else single no_room (ltb room (length (tangent_list M levels first count))) (length (tangent_list M levels first count))

-- ---- a call for the tangents of `count` corners from `first` on, beside that for the triangles, with a lent list that held `old`: it answers r and leaves
-- `tangents`. It writes the beginning, and the further entries keep their contents
pub record TangentsFilled (M : Mesh) (links levels : List ℕ) (first count : ℕ) (old : List ℤ) (r : Told ℕ) (tangents : List ℤ) : Type 0 where
  pub answers : stated r ≡ tangent_verdict M links first count levels (length old)
  pub numbers_are : IfOk r (λ n. n ≡ length (tangent_list M levels first count))
  pub holds : tangents ≡ kept (stated r) (begins (tangent_list M levels first count) old) old
