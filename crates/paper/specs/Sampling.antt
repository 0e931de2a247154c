-- L12, "Sampling a patch": the point at weights i/N, j/N, k/N of one of a quad-net's four triangles, numbered by side. The triangle's control
-- points, the quartic Bernstein sum, the checks 32 and 33, the call for one sample, and the one for all samples of a triangle.
use Rattle.std.specs.Prelude.{◌≡◌, Bool, not, ◌||◌, List, [], ◌++◌, ℕ, zero, suc, ◌+◌, ◌-◌, ◌*◌, ◌/◌, ◌^◌, ◌≤◌, ltb, eqb, length, get_or, take, drop, ℤ, pos, ◌*ℤ◌, ◌≤ℤ◌}
use Rattle.paper.specs.Faults.{Verdict, ◌or_else◌, single, outside, Answered, Answer, done}
use Rattle.paper.specs.Numbers.{round, sum}
use Rattle.paper.specs.Net.{Side, side0, side1, side2, side3, b, a, outer_row, a_row}
use Rattle.paper.specs.Calls.{per_corner}
use Rattle.paper.specs.File.{no_room, begins}
use Rattle.paper.specs.Floats.{net_verdict, axes}
use Rattle.paper.specs.Borders.{Output}

-- ---- a triangle's control points, in rows from the side inwards and each row from the head; p has the 41 points of a quad-net
module _ {A : Type 0} (p : ℕ → A) where
  -- three b points: for side 0 b11, b12, b13
  abbrev pub inner_b : Side → ℕ → A
  inner_b side0 q = b p 1 (1 + q)
  inner_b side1 q = b p (3 - q) 3
  inner_b side2 q = b p 3 (3 - q)
  inner_b side3 q = b p (1 + q) 1

  -- two a points: for side 0 a11, a12
  abbrev pub inner_a : Side → ℕ → A
  inner_a side0 q = a p 1 (1 + q)
  inner_a side1 q = a p (2 - q) 2
  inner_a side2 q = a p 2 (2 - q)
  inner_a side3 q = a p (1 + q) 1

  -- point q of row n: five outer b points, four a points, three b points, two a points and b22
  abbrev pub control : Side → ℕ → ℕ → A
  control s zero q = outer_row p s q
  control s (suc zero) q = a_row p s q
  control s (suc (suc zero)) q = inner_b s q
  control s (suc (suc (suc zero))) q = inner_a s q
  control s (suc (suc (suc (suc n)))) q = b p 2 2

-- ---- the quartic Bernstein sum: the control point beside the powers l, m, n of the three weights, which sum to 4, counts 4!/(l! m! n!) times
abbrev pub factorial : ℕ → ℕ
factorial zero = 1
factorial (suc n) = suc n * factorial n

unfoldable pub bernstein : ℕ → ℕ → ℕ → ℕ → ℕ → ℕ → ℕ
bernstein i j k l m n = factorial 4 / (factorial l * factorial m * factorial n) * (i ^ l * j ^ m * k ^ n)

-- N^4 times the point: row n has the control points with power n of the third weight, from the head those with power 0, 1, .. of the second
unfoldable pub bernstein_sum : (ℕ → ℤ) → Side → ℕ → ℕ → ℕ → ℤ
bernstein_sum p s i j k = sum (λ n. sum (λ m. pos (bernstein i j k (4 - n - m) m n) *ℤ control p s n m) (5 - n)) 5

-- ---- the weights i/N of the side's head, j/N of its tail and k/N of the centre
pub record Weights : Type 0 where
  pub head : ℕ
  pub tail : ℕ
  pub centre : ℕ
  pub parts : ℕ

abbrev pub weights : ℕ → ℕ → ℕ → ℕ → Weights
weights i j k N = record { head = i; tail = j; centre = k; parts = N }

-- ---- the sample, on an axis and as x, y, z: the sum rounded once. Of the 123 numbers point k is x, y, z from place 3k on
abbrev pub on_axis : List ℤ → ℕ → ℕ → ℤ
on_axis numbers axis k = get_or numbers (3 * k + axis) (pos 0)

unfoldable pub sample_at : List ℤ → Side → Weights → ℕ → ℤ
sample_at numbers s w axis = round (bernstein_sum (on_axis numbers axis) s w.head w.tail w.centre) (pos (w.parts ^ 4))

unfoldable pub sample_point : List ℤ → Side → Weights → List ℤ
sample_point numbers s w = axes (sample_at numbers s w 0) (sample_at numbers s w 1) (sample_at numbers s w 2)

-- ---- the checks
-- 32: the side is above 3
unfoldable pub fault32 : ℕ → Bool
fault32 side = ltb 3 side

-- 33: N is outside 1 to 16, or i + j + k is not N
abbrev pub most_parts : ℕ
most_parts = 16

unfoldable pub fault33 : Weights → Bool
fault33 w = outside 1 most_parts w.parts || not (eqb (w.head + w.tail + w.centre) w.parts)

-- 18 and 19, then 32, then 33
unfoldable pub sample_verdict : List ℤ → ℕ → Weights → Verdict
sample_verdict numbers side w = net_verdict numbers or_else single 32 (fault32 side) side or_else single 33 (fault33 w) w.parts

-- the side with a number
abbrev pub side_at : ℕ → Side
side_at zero = side0
side_at (suc zero) = side1
side_at (suc (suc zero)) = side2
side_at (suc (suc (suc n))) = side3

-- ---- a call for one sample, with a lent point that held `old`: it writes the sample
abbrev pub Sampled : List ℤ → ℕ → Weights → List ℤ → Answer → List ℤ → Type 0
Sampled numbers side w old = Answered (sample_verdict numbers side w) (sample_point numbers (side_at side) w) old

-- ---- all samples of a triangle, in rows from the side inwards and each row from the head
-- of row k those with second weight 0, 1, .. below `count`
unfoldable pub row_samples : List ℤ → Side → ℕ → ℕ → ℕ → List ℤ
row_samples numbers s N k zero = []
row_samples numbers s N k (suc j) = row_samples numbers s N k j ++ sample_point numbers s (weights (N - k - j) j k N)

-- of the first rows
unfoldable pub first_rows : List ℤ → Side → ℕ → ℕ → List ℤ
first_rows numbers s N zero = []
first_rows numbers s N (suc k) = first_rows numbers s N k ++ row_samples numbers s N k (N - k + 1)

unfoldable pub triangle_samples : List ℤ → Side → ℕ → List ℤ
triangle_samples numbers s N = first_rows numbers s N (N + 1)

-- how many samples that are
unfoldable pub sample_count : ℕ → ℕ
sample_count N = (N + 1) * (N + 2) / 2

-- 18, 19, 32 and 33, then 255: the lent list has no room (place: the length that it needs)
unfoldable pub triangle_verdict : List ℤ → ℕ → ℕ → ℕ → Verdict
triangle_verdict numbers side N room =
    net_verdict numbers
    or_else single 32 (fault32 side) side
    or_else single 33 (outside 1 most_parts N) N
    or_else single no_room (ltb room (3 * sample_count N)) (3 * sample_count N)

-- a call for them, with a lent list that held `old`: it writes its beginning, and its further entries keep their contents
abbrev pub TriangleSampled : List ℤ → ℕ → ℕ → List ℤ → Answer → List ℤ → Type 0
TriangleSampled numbers side N old = Answered (triangle_verdict numbers side N (length old)) (begins (triangle_samples numbers (side_at side) N) old) old

-- ---- what the theorems say
abbrev pub side_number : Side → ℕ
side_number side0 = 0
side_number side1 = 1
side_number side2 = 2
side_number side3 = 3

-- the 123 numbers of corner c in an output
abbrev pub net_in : Output → ℕ → List ℤ
net_in O c = take per_corner (drop (per_corner * (c - O.first)) O.numbers)

-- samples with the weights w of two triangles, side s of the one net and side t of the other, are the same: two calls answer the same, refusals
-- too, and leave the same numbers
abbrev pub Alike : List ℤ → Side → List ℤ → Side → Weights → Type 0
Alike net s other t w =
    (old old' out out' : List ℤ) (r r' : Answer) → Sampled net (side_number s) w old r out → Sampled other (side_number t) w old' r' out'
    → (r ≡ r') × (r ≡ done → out ≡ out')

-- a control point as x, y, z
abbrev pub control_point : List ℤ → Side → ℕ → ℕ → List ℤ
control_point numbers s n q = axes (control (on_axis numbers 0) s n q) (control (on_axis numbers 1) s n q) (control (on_axis numbers 2) s n q)

-- a call with the weights w leaves this point
abbrev pub Leaves : List ℤ → Side → Weights → List ℤ → Type 0
Leaves numbers s w point = (old out : List ℤ) → Sampled numbers (side_number s) w old done out → out ≡ point

-- z lies between the least and the largest of the triangle's 15 coordinates: within every bounds that they keep
abbrev pub Between : (ℕ → ℤ) → Side → ℤ → Type 0
Between p s z =
    (low high : ℤ) → ((n q : ℕ) → n + q ≤ 4 → (low ≤ℤ control p s n q) × (control p s n q ≤ℤ high)) → (low ≤ℤ z) × (z ≤ℤ high)

-- where the samples of row k begin among those of a triangle
unfoldable pub row_start : ℕ → ℕ → ℕ
row_start N k = k * (2 * N + 3 - k) / 2
