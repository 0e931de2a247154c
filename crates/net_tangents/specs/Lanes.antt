-- The lanes of a table: each of a tangent pair's six numbers on each of the four sides has one, with the ten differences by which it goes from place to place and
-- from row to row.
use Rattle.std.specs.Prelude.{◌≡◌, List, [], ◌∷◌, ℕ, ◌+◌, ◌*◌, ◌/◌, ◌%◌, ◌^◌, ◌≤◌, ◌<◌, eqb, ltb, length, get_or, ℤ, pos, nat_abs, ◌+ℤ◌, ◌-ℤ◌, ◌*ℤ◌}
use Rattle.bernstein.specs.declared.Matrix5.{Matrix5}
use Rattle.bernstein.specs.declared.Vector5.{Vector5}
use Rattle.bernstein.specs.Sums.{Tapered, AllTapered, vector5, polynomial_of, row_of, polynomial_at, state_of, states_of}
use Rattle.bernstein.specs.Tangents.{along_of, inward_of}
use Rattle.net_points.specs.writing.Laid.{pick_matrix, turned_of}

-- ---- a matrix less another
unfoldable pub less_of : Vector5 → Vector5 → Vector5
less_of u v = vector5 (u.a -ℤ v.a) (u.b -ℤ v.b) (u.c -ℤ v.c) (u.d -ℤ v.d) (u.e -ℤ v.e)

unfoldable pub minus_of : Matrix5 → Matrix5 → Matrix5
minus_of p q = record {
  r0 = less_of p.r0 q.r0;
  r1 = less_of p.r1 q.r1;
  r2 = less_of p.r2 q.r2;
  r3 = less_of p.r3 q.r3;
  r4 = less_of p.r4 q.r4;
}

abbrev pub zero_vector : Vector5
zero_vector = vector5 (pos 0) (pos 0) (pos 0) (pos 0) (pos 0)

abbrev pub zero_matrix : Matrix5
zero_matrix = record { r0 = zero_vector; r1 = zero_vector; r2 = zero_vector; r3 = zero_vector; r4 = zero_vector }

-- ---- the derivatives of a polynomial in turn, towards the tail and towards the centre: where j is the head's weight, the tail's falls as j rises
unfoldable pub tailward_of : ℕ → Matrix5 → Matrix5
tailward_of side c = pick_matrix (eqb (side % 2) 1) (minus_of zero_matrix (along_of c)) (along_of c)

unfoldable pub centreward_of : ℕ → Matrix5 → Matrix5
centreward_of side c = pick_matrix (eqb (side % 2) 1) (minus_of (inward_of c) (along_of c)) (inward_of c)

-- the polynomial of lane y in n parts: six lanes for each side, three on the axes towards the tail, then three towards the centre
unfoldable pub lane_of : List ℤ → ℕ → ℕ → Matrix5
lane_of numbers n y =
    let c = polynomial_of (turned_of numbers (y / 6) (y % 3)) (pos n) in pick_matrix (ltb (y % 6) 3) (tailward_of (y / 6) c) (centreward_of (y / 6) c)

-- ---- polynomials of degree three: without their terms of degree four and more they are the same
unfoldable pub truncated_of : Matrix5 → Matrix5
truncated_of c = record {
  r0 = vector5 c.r0.a c.r0.b c.r0.c c.r0.d (pos 0);
  r1 = vector5 c.r1.a c.r1.b c.r1.c (pos 0) (pos 0);
  r2 = vector5 c.r2.a c.r2.b (pos 0) (pos 0) (pos 0);
  r3 = vector5 c.r3.a (pos 0) (pos 0) (pos 0) (pos 0);
  r4 = zero_vector;
}

pub record CubicTapered (c : Matrix5) : Type 0 where
  pub tapers : AllTapered c
  pub cubic : truncated_of c ≡ c

pub record CubicRow (v : Vector5) : Type 0 where
  pub tapers : Tapered (5 * 2 ^ 34) v
  pub cubic : v.e ≡ pos 0

-- the value and the first to third difference along a row at its first place, as polynomials in k
unfoldable pub forward_of : Matrix5 → Matrix5
forward_of c = record {
  r0 = vector5 c.r0.a c.r0.b c.r0.c c.r0.d (pos 0);
  r1 = vector5 (c.r1.a +ℤ c.r2.a +ℤ c.r3.a) (c.r1.b +ℤ c.r2.b) c.r1.c (pos 0) (pos 0);
  r2 = vector5 (pos 2 *ℤ c.r2.a +ℤ pos 6 *ℤ c.r3.a) (pos 2 *ℤ c.r2.b) (pos 0) (pos 0) (pos 0);
  r3 = vector5 (pos 6 *ℤ c.r3.a) (pos 0) (pos 0) (pos 0) (pos 0);
  r4 = zero_vector;
}

-- ---- the table: number s of lane y stands at place 24 s + y
abbrev pub ten_of : Matrix5 → List ℤ
ten_of m = m.r0.a ∷ m.r1.a ∷ m.r2.a ∷ m.r3.a ∷ m.r0.b ∷ m.r1.b ∷ m.r2.b ∷ m.r0.c ∷ m.r1.c ∷ m.r0.d ∷ []

abbrev pub lane_number : Matrix5 → ℕ → ℤ
lane_number m s = get_or (ten_of m) s (pos 0)

pub record LanePut (y : ℕ) (m : Matrix5) (old new : List ℤ) : Type 0 where
  pub there : (s : ℕ) → s < 10 → get_or new (24 * s + y) (pos 0) ≡ lane_number m s
  pub others : (s z : ℕ) → z < 24 → (z ≡ y → ⊥) → get_or new (24 * s + z) (pos 0) ≡ get_or old (24 * s + z) (pos 0)

-- at row k the lanes from `from` to `to` hold the differences of polynomials F
pub record Lanes (F : ℕ → Matrix5) (from to k : ℕ) (table : List ℤ) : Type 0 where
  pub long : length table ≡ 240
  pub few : k ≤ 16
  pub smooth : (y : ℕ) → from ≤ y → y < to → CubicTapered (F y)
  pub holds : (s y : ℕ) → s < 10 → from ≤ y → y < to → get_or table (24 * s + y) (pos 0) ≡ lane_number (states_of (forward_of (F y)) k) s

-- those of some polynomials
pub record Laned (from to k : ℕ) (table : List ℤ) : Type 0 where
  pub polynomials : ℕ → Matrix5
  pub lanes : Lanes polynomials from to k table

-- the axis of lane y: a net has twelve, three for each side, with two lanes each
abbrev pub axis_of : ℕ → ℕ
axis_of y = 3 * (y / 6) + y % 3

pub record LanesFilled (F : ℕ → Matrix5) (from to : ℕ) (table : List ℤ) : Type 0 where
  pub filled : (s y : ℕ) → s < 10 → y < 24 → from ≤ axis_of y → axis_of y < to → get_or table (24 * s + y) (pos 0) ≡ lane_number (states_of (forward_of (F y)) 0) s

pub record AxisFilled (F : ℕ → Matrix5) (pair : ℕ) (old new : List ℤ) : Type 0 where
  pub there : LanesFilled F pair (pair + 1) new
  pub others : (s y : ℕ) → y < 24 → (axis_of y ≡ pair → ⊥) → get_or new (24 * s + y) (pos 0) ≡ get_or old (24 * s + y) (pos 0)

-- sums of its numbers fit
abbrev pub Small : List ℤ → Type 0
Small table = (length table ≡ 240) × ((i : ℕ) → i < 240 → nat_abs (get_or table i (pos 0)) ≤ 2 ^ 60)

-- ---- to each number from `at` up to `to` the one `gap` places on has been added
pub record Added (at to gap : ℕ) (old new : List ℤ) : Type 0 where
  pub sums : (i : ℕ) → at ≤ i → i < to → get_or new i (pos 0) ≡ get_or old i (pos 0) +ℤ get_or old (i + gap) (pos 0)
  pub before : (i : ℕ) → i < at → get_or new i (pos 0) ≡ get_or old i (pos 0)
  pub after : (i : ℕ) → to ≤ i → get_or new i (pos 0) ≡ get_or old i (pos 0)

-- ---- the states of six polynomials g at place j: the values, then the first, second and third differences
abbrev pub state_number : Vector5 → ℕ → ℤ
state_number v p = get_or (v.a ∷ v.b ∷ v.c ∷ v.d ∷ []) p (pos 0)

pub record SixStates (g : ℕ → Vector5) (j : ℕ) (states : List ℤ) : Type 0 where
  pub long : length states ≡ 24
  pub holds : (p e : ℕ) → p < 4 → e < 6 → get_or states (6 * p + e) (pos 0) ≡ state_number (state_of (g e) j) p

abbrev pub CubicRows : (ℕ → Vector5) → Type 0
CubicRows g = (e : ℕ) → e < 6 → CubicRow (g e)

pub record Stepping (states : List ℤ) : Type 0 where
  pub polynomials : ℕ → Vector5
  pub place : ℕ
  pub few : place ≤ 16
  pub cubic : CubicRows polynomials
  pub steps : SixStates polynomials place states

-- the polynomials of the six lanes from `lane` on, at row k
abbrev pub rows_at : (ℕ → Matrix5) → ℕ → ℕ → ℕ → Vector5
rows_at F lane k e = row_of (F (lane + e)) k

-- number x of the values at places from `first` on, six for each
abbrev pub value_number : (ℕ → Vector5) → ℕ → ℕ → ℤ
value_number g first x = polynomial_at (g (x % 6)) (first + x / 6)
