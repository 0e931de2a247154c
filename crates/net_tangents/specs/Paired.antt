-- The tangents of a corner's own points in a list, six numbers for each, in the order of the points.
use Rattle.std.specs.Prelude.{◌≡◌, List, ℕ, zero, suc, ◌+◌, ◌-◌, ◌*◌, ◌/◌, ◌%◌, ◌<◌, get_or, ℤ, pos}
use Rattle.paper.specs.Net.{side0, side1, side2}
use Rattle.paper.specs.Sampling.{side_at}
use Rattle.paper.specs.Triangles.{groups, turn_weights}
use Rattle.paper.specs.Tangents.{tangent_pair}
use Rattle.net_points.specs.declared.writing.Shape.{Shape}
use Rattle.strips.specs.PointRows.{FilledTo}
use Rattle.net_points.specs.writing.Laid.{ring_at}
use Rattle.net_points.specs.writing.Shapes.{shape_group, shape_start, shape_size}

-- number x of the tangents at places from `first` on, six for each
unfoldable pub part_number : List ℤ → ℕ → ℕ → ℕ → ℕ → ℕ → ℤ
part_number numbers side n k first x = get_or (tangent_pair numbers (side_at side) (turn_weights (side_at side) n k (first + x / 6))) (x % 6) (pos 0)

-- ---- w places of each side's row k
abbrev pub RingAim : List ℤ → ℕ → ℕ → ℕ → ℕ → (ℕ → ℤ) → Type 0
RingAim numbers n k w at f =
    (side j e : ℕ) → side < 4 → j < w → e < 6
    → f (at + 6 * (side * w) + 6 * j + e) ≡ get_or (tangent_pair numbers (side_at side) (turn_weights (side_at side) n k (0 + j))) e (pos 0)

abbrev pub RingPaired : List ℤ → ℕ → ℕ → ℕ → ℕ → List ℤ → List ℤ → Type 0
RingPaired numbers n k w at before after =
    (f : ℕ → ℤ) (old : List ℤ) → FilledTo f old at before → RingAim numbers n k w at f → FilledTo f old (at + 24 * w) after

-- ---- the rings of a net with level n, and its centre
abbrev pub RingPairs : List ℤ → ℕ → ℕ → (ℕ → ℤ) → Type 0
RingPairs numbers n at f =
    (side k j e : ℕ) → side < 4 → j < n - suc k → e < 6
    → f (at + 6 * ring_at n side k j + e) ≡ get_or (tangent_pair numbers (side_at side) (turn_weights (side_at side) n (suc k) j)) e (pos 0)

abbrev pub CentrePair : List ℤ → ℕ → ℕ → (ℕ → ℤ) → Type 0
CentrePair numbers n at f =
    (e : ℕ) → e < 6 → f (at + 6 * (2 * (n * (n - 1))) + e) ≡ get_or (tangent_pair numbers side0 (turn_weights side0 n n 0)) e (pos 0)

abbrev pub RingsPaired : List ℤ → ℕ → ℕ → List ℤ → List ℤ → Type 0
RingsPaired numbers n at before after =
    (f : ℕ → ℤ) (old : List ℤ) → FilledTo f old at before → RingPairs numbers n at f → CentrePair numbers n at f
    → FilledTo f old (at + 6 * (2 * (n * (n - 1)) + 1)) after

-- ---- all groups of a corner: what the point at a place of a group has
unfoldable pub shape_pair : List ℤ → Shape → ℕ → ℕ → ℕ → List ℤ
shape_pair numbers s third zero place = tangent_pair numbers side0 (turn_weights side0 s.first 0 0)
shape_pair numbers s third (suc zero) place = tangent_pair numbers side1 (turn_weights side1 s.second 0 0)
shape_pair numbers s third (suc (suc zero)) place = tangent_pair numbers side2 (turn_weights side2 third 0 0)
shape_pair numbers s third (suc (suc (suc zero))) place = tangent_pair numbers side0 (turn_weights side0 s.first 0 (place + 1))
shape_pair numbers s third (suc (suc (suc (suc zero)))) place = tangent_pair numbers side1 (turn_weights side1 s.second 0 (place + 1))
shape_pair numbers s third (suc (suc (suc (suc (suc k))))) place =
    let w = s.level - suc k in tangent_pair numbers (side_at (place / w)) (turn_weights (side_at (place / w)) s.level (suc k) (place % w))

abbrev pub PairAim : List ℤ → Shape → ℕ → ℕ → (ℕ → ℤ) → Type 0
PairAim numbers s third at f =
    (g place e : ℕ) → g < groups → place < shape_group s g → e < 6 → f (at + 6 * (shape_start s g + place) + e) ≡ get_or (shape_pair numbers s third g place) e (pos 0)

abbrev pub NetPaired : List ℤ → Shape → ℕ → ℕ → List ℤ → List ℤ → Type 0
NetPaired numbers s third at before after =
    (f : ℕ → ℤ) (old : List ℤ) → FilledTo f old at before → PairAim numbers s third at f → FilledTo f old (at + 6 * shape_size s) after
