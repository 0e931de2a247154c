-- "The four conditions across a side", of the points that building writes, as calls leave them in their outputs.
use Rattle.std.specs.Prelude.{◌≡◌, List, ℕ, ◌+◌, ◌-◌, ◌*◌, ◌≤◌, ◌<◌, get_or, ℤ, pos, ◌+ℤ◌, ◌-ℤ◌, ◌*ℤ◌, nat_abs}
use Rattle.paper.specs.Mesh.{Mesh}
use Rattle.paper.specs.Numbers.{rounded}
use Rattle.paper.specs.Cosines.{unit}
use Rattle.paper.specs.Refined.{corners_of, refined_of}
use Rattle.paper.specs.Net.{Side, neighbour, across, H, T, X, Y, C, outer_row, a_row}
use Rattle.paper.specs.Calls.{per_corner, nets, Built}
use Rattle.paper.specs.Faults.{done}

-- ---- a call's output
-- its numbers, for `count` corners from `first` on
pub record Output : Type 0 where
  pub numbers : List ℤ
  pub first : ℕ
  pub count : ℕ

abbrev pub output_at : List ℤ → ℕ → ℕ → Output
output_at numbers first count = record { numbers = numbers; first = first; count = count }

-- a call of building on M that is not refused left it so
pub record Wrote (M : Mesh) (O : Output) : Type 0 where
  pub links : List ℕ
  pub old : List ℤ
  pub call : Built M links O.first O.count old done O.numbers

-- what such a call leaves
abbrev pub output_of : Mesh → ℕ → ℕ → Output
output_of M first count = output_at (nets M first count) first count

-- corner c is in its range
abbrev pub Holds : Output → ℕ → Type 0
Holds O c = (O.first ≤ c) × (c < O.first + O.count)

-- point k of corner c on an axis: `per_corner` numbers a corner, x, y, z of each of its 41 points
unfoldable pub written : Output → ℕ → ℕ → ℕ → ℤ
written O axis c k = get_or O.numbers (per_corner * (c - O.first) + 3 * k + axis) (pos 0)

-- ---- the four conditions, times 2^30: `one` stands for 1 and C for c. H, T, X, Y and C are the side's;
-- b, a and â are points of the outer row, of the a row and of the neighbour's a row, at the place that the condition names
abbrev pub one : ℤ
one = pos unit

module _ (H T X Y C b a â : ℤ) where
  -- 4(a0 + â0 - 2b0) - 3(1 + c)(X - H)
  abbrev pub first : ℤ
  first = pos 4 *ℤ one *ℤ (a +ℤ â -ℤ pos 2 *ℤ b) -ℤ pos 3 *ℤ (one +ℤ C) *ℤ (X -ℤ H)

  -- 4(a1 + â1 - 2b1) - 2(1 + c)(Y - X) - (X - H)
  abbrev pub second : ℤ
  second = pos 4 *ℤ one *ℤ (a +ℤ â -ℤ pos 2 *ℤ b) -ℤ pos 2 *ℤ (one +ℤ C) *ℤ (Y -ℤ X) -ℤ one *ℤ (X -ℤ H)

  -- 4(a2 + â2 - 2b2) - (1 + c)(T - Y) - 2(Y - X)
  abbrev pub third : ℤ
  third = pos 4 *ℤ one *ℤ (a +ℤ â -ℤ pos 2 *ℤ b) -ℤ (one +ℤ C) *ℤ (T -ℤ Y) -ℤ pos 2 *ℤ one *ℤ (Y -ℤ X)

  -- 4(a3 + â3 - 2b3) - 3(T - Y)
  abbrev pub fourth : ℤ
  fourth = pos 4 *ℤ one *ℤ (a +ℤ â -ℤ pos 2 *ℤ b) -ℤ pos 3 *ℤ one *ℤ (T -ℤ Y)

-- within -13 to 13
abbrev pub most_miss : ℕ
most_miss = 13

abbrev pub InBounds : ℤ → Type 0
InBounds z = nat_abs z ≤ most_miss * unit

-- ---- 01's border: "a side of one of its quad-nets together with the neighbour's side that the table of sides gives". Here it is the side s of c; the
-- quad-net of c stands in the output A, the neighbour's in B
-- the neighbouring corner
abbrev pub beside : Mesh → ℕ → Side → ℕ
beside M c s = neighbour (corners_of M) c s

module _ (M : Mesh) (A B : Output) (axis c : ℕ) (s : Side) where
  abbrev pub here : ℕ → ℤ
  here k = written A axis c k

  abbrev pub there : ℕ → ℤ
  there k = written B axis (beside M c s) k

  -- a condition of this side on this axis, at place j of the rows
  abbrev pub miss : (ℤ → ℤ → ℤ → ℤ → ℤ → ℤ → ℤ → ℤ → ℤ) → ℕ → ℤ
  miss condition j =
      let K = refined_of rounded M axis in
      condition (H K c s) (T K c s) (X K c s) (Y K c s) (C K c s) (outer_row here s j) (a_row here s j) (a_row there (across s) j)

pub record Smooth (M : Mesh) (A B : Output) (axis c : ℕ) (s : Side) : Type 0 where
  -- 01's common curve, the five outer points of the side from the head: the same numbers in both
  pub curve : (j : ℕ) → j < 5 → outer_row (here M A B axis c s) s j ≡ outer_row (there M A B axis c s) (across s) j
  pub first_bounded : InBounds (miss M A B axis c s first 0)
  pub second_bounded : InBounds (miss M A B axis c s second 1)
  pub third_bounded : InBounds (miss M A B axis c s third 2)
  pub fourth_bounded : InBounds (miss M A B axis c s fourth 3)

-- ---- every border with the one quad-net in A and the other in B
abbrev pub Borders : Mesh → Output → Output → Type 0
Borders M A B = (c : ℕ) (s : Side) → Holds A c → Holds B (beside M c s) → (axis : ℕ) → axis < 3 → Smooth M A B axis c s
