-- Numbers that are written here and there into a list, of which each place is to hold a certain one; and the control points of a side in turn.
use Rattle.std.specs.Prelude.{◌≡◌, ◌⊎◌, Bool, true, false, List, ℕ, suc, ◌+◌, ◌-◌, ◌*◌, ◌%◌, ◌^◌, ◌≤◌, ◌<◌, eqb, length, get_or, ℤ, pos}
use Rattle.paper.specs.Numbers.{round}
use Rattle.paper.specs.Sampling.{control, on_axis, sample_at, side_at}
use Rattle.paper.specs.Triangles.{turn_weights}
use Rattle.bernstein.specs.declared.Matrix5.{Matrix5}
use Rattle.bernstein.specs.Sums.{vector5, rows_of, quartic_sum}
use Rattle.sampling.specs.Grid.{Sampleable}

-- ---- f says what each place is to hold. No place has changed but to hold that, and those of S do hold it
pub record Reaches (f : ℕ → ℤ) (S : ℕ → Type 0) (old new : List ℤ) : Type 0 where
  pub same : length new ≡ length old
  pub there : (t : ℕ) → S t → get_or new t (pos 0) ≡ f t
  pub each : (t : ℕ) → (get_or new t (pos 0) ≡ f t) ⊎ (get_or new t (pos 0) ≡ get_or old t (pos 0))

-- ---- the control points of a side in turn: on sides 1 and 3 each row from the tail
unfoldable pub reversed_of : Matrix5 → Matrix5
reversed_of p = record {
  r0 = vector5 p.r0.e p.r0.d p.r0.c p.r0.b p.r0.a;
  r1 = vector5 p.r1.d p.r1.c p.r1.b p.r1.a (pos 0);
  r2 = vector5 p.r2.c p.r2.b p.r2.a (pos 0) (pos 0);
  r3 = vector5 p.r3.b p.r3.a (pos 0) (pos 0) (pos 0);
  r4 = vector5 p.r4.a (pos 0) (pos 0) (pos 0) (pos 0);
}

abbrev pub pick_matrix : Bool → Matrix5 → Matrix5 → Matrix5
pick_matrix true p q = p
pick_matrix false p q = q

unfoldable pub turned_of : List ℤ → ℕ → ℕ → Matrix5
turned_of numbers side axis = let p = rows_of (control (on_axis numbers axis) (side_at side)) in pick_matrix (eqb (side % 2) 1) (reversed_of p) p

-- their sums are the side's samples at the places of its rows
pub record InTurn (numbers : List ℤ) (side axis : ℕ) (p : Matrix5) : Type 0 where
  pub points : p ≡ turned_of numbers side axis
  pub sampleable : (n : ℕ) → 1 ≤ n → n ≤ 16 → Sampleable p n
  pub samples : (n k j : ℕ) → k + j ≤ n
      → round (quartic_sum p (pos (n - k - j)) (pos j) (pos k)) (pos (n ^ 4)) ≡ sample_at numbers (side_at side) (turn_weights (side_at side) n k j) axis

-- ---- an end or the centre: one of the net's points, where it is the corner's own
abbrev pub EndAim : List ℤ → ℕ → ℕ → ℕ → (ℕ → ℤ) → Type 0
EndAim numbers point own at f = own ≡ 1 → (axis : ℕ) → axis < 3 → f (at + axis) ≡ on_axis numbers axis point

abbrev pub PointPlace : ℕ → ℕ → Type 0
PointPlace at t = (axis : ℕ) × (axis < 3) × (t ≡ at + axis)

abbrev pub EndPlace : ℕ → ℕ → ℕ → Type 0
EndPlace own at t = (own ≡ 1) × PointPlace at t

-- ---- the inner points of a border in m parts
abbrev pub CurveAim : List ℤ → ℕ → ℕ → ℕ → (ℕ → ℤ) → Type 0
CurveAim numbers side m at f =
    (j axis : ℕ) → j + 1 < m → axis < 3 → f (at + 3 * j + axis) ≡ sample_at numbers (side_at side) (turn_weights (side_at side) m 0 (j + 1)) axis

abbrev pub CurvePlace : ℕ → ℕ → ℕ → Type 0
CurvePlace m at t = (j : ℕ) × (axis : ℕ) × (j + 1 < m) × (axis < 3) × (t ≡ at + 3 * j + axis)

-- ---- the rings of a net with level n: place j of a side's row on ring k + 1
abbrev pub ring_at : ℕ → ℕ → ℕ → ℕ → ℕ
ring_at n side k j = 2 * (k * (2 * n - k - 1)) + side * (n - suc k) + j

-- on one axis of one side
abbrev pub SpokeAim : Matrix5 → ℕ → ℕ → ℕ → (ℕ → ℤ) → Type 0
SpokeAim p side n at f =
    (k j : ℕ) → j < n - suc k
    → f (at + 3 * ring_at n side k j) ≡ round (quartic_sum p (pos (n - suc k - j)) (pos j) (pos (suc k))) (pos (n ^ 4))

abbrev pub SpokePlace : ℕ → ℕ → ℕ → ℕ → ℕ → Type 0
SpokePlace side n at rings t = (k : ℕ) × (j : ℕ) × (k < rings) × (j < n - suc k) × (t ≡ at + 3 * ring_at n side k j)

-- on all axes of the first sides
abbrev pub RingsAim : List ℤ → ℕ → ℕ → (ℕ → ℤ) → Type 0
RingsAim numbers n at f =
    (side k j axis : ℕ) → side < 4 → j < n - suc k → axis < 3
    → f (at + 3 * ring_at n side k j + axis) ≡ sample_at numbers (side_at side) (turn_weights (side_at side) n (suc k) j) axis

abbrev pub RingsPlace : ℕ → ℕ → ℕ → ℕ → Type 0
RingsPlace n at sides t =
    (side : ℕ) × (k : ℕ) × (j : ℕ) × (axis : ℕ) × (side < sides) × (j < n - suc k) × (axis < 3) × (t ≡ at + 3 * ring_at n side k j + axis)
