-- The rows of a side and the two grids, as the code has them, against the definitions.
use Rattle.std.specs.Prelude.{◌≡◌, List, [], ℕ, ◌<◌, length, get_or, ℤ, pos}
use Rattle.surface.specs.Sizes.{WrittenSize}
use Rattle.paper.specs.Numbers.{rounded}
use Rattle.paper.specs.Refined.{RefinedMesh}
use Rattle.paper.specs.Net.{Side, side0, side1, side2, side3, at_head, at_tail, opposite, H, T, outer1, outer2, outer3, a1, a2, middle, b_grid, a_grid}
use Rattle.net_rows.specs.declared.sides.SideValues.{SideValues}
use Rattle.net_rows.specs.sides.Values.{IsSide}
use Rattle.net_rows.specs.declared.rows.RowValues.{RowValues}

-- the outer row's second, third and fourth point, the a row's second and third, and the middle
pub record IsRows (K : RefinedMesh rounded) (c : ℕ) (s : Side) (r : RowValues) : Type 0 where
  pub outer1 : r.outer1 ≡ outer1 K c s
  pub outer2 : r.outer2 ≡ outer2 K c s
  pub outer3 : r.outer3 ≡ outer3 K c s
  pub a1 : r.a1 ≡ a1 K c s
  pub a2 : r.a2 ≡ a2 K c s
  pub middle : r.middle ≡ middle K c s

pub record RowsSized (r : RowValues) : Type 0 where
  pub outer1 : WrittenSize r.outer1
  pub outer2 : WrittenSize r.outer2
  pub outer3 : WrittenSize r.outer3
  pub a1 : WrittenSize r.a1
  pub a2 : WrittenSize r.a2
  pub middle : WrittenSize r.middle

-- the rows of the side whose values are f, for whichever net: g and l are the other sides at its head and tail, o is the opposite one
pub record RowsOf (f g l o : SideValues) (r : RowValues) : Type 0 where
  pub rows : (K : RefinedMesh rounded) (c : ℕ) (s : Side)
      → IsSide K c s f → IsSide K c (at_head s) g → IsSide K c (at_tail s) l → IsSide K c (opposite s) o → IsRows K c s r
  pub sized : RowsSized r

-- the four sides' rows
pub record AllRows (K : RefinedMesh rounded) (c : ℕ) (r0 r1 r2 r3 : RowValues) : Type 0 where
  pub rows0 : IsRows K c side0 r0
  pub rows1 : IsRows K c side1 r1
  pub rows2 : IsRows K c side2 r2
  pub rows3 : IsRows K c side3 r3

pub record FourRowsSized (r0 r1 r2 r3 : RowValues) : Type 0 where
  pub rows0 : RowsSized r0
  pub rows1 : RowsSized r1
  pub rows2 : RowsSized r2
  pub rows3 : RowsSized r3

-- a grid of n rows of n numbers
abbrev pub Square : ℕ → List (List ℤ) → Type 0
Square n g = (i : ℕ) → i < n → length (get_or g i []) ≡ n

-- the two a points that the centre of the b grid comes from
abbrev pub a12 : List (List ℤ) → ℤ
a12 g = get_or (get_or g 1 []) 2 (pos 0)

abbrev pub a21 : List (List ℤ) → ℤ
a21 g = get_or (get_or g 2 []) 1 (pos 0)

-- the four rows of four a points of whichever net has these rows
pub record IsAGrid (r0 r1 r2 r3 : RowValues) (g : List (List ℤ)) : Type 0 where
  pub grid : (K : RefinedMesh rounded) (c : ℕ) → AllRows K c r0 r1 r2 r3 → g ≡ a_grid K c
  pub square : Square 4 g
  pub sized : WrittenSize (a12 g) × WrittenSize (a21 g)

-- the ends, corner by corner of the grid
pub record Ends (K : RefinedMesh rounded) (c : ℕ) (e0 e1 e2 e3 : ℤ) : Type 0 where
  pub end0 : e0 ≡ H K c side0
  pub end1 : e1 ≡ T K c side0
  pub end2 : e2 ≡ H K c side2
  pub end3 : e3 ≡ T K c side3

-- the five rows of five b points of whichever net has these ends and rows, and this grid of a points
pub record IsBGrid (e0 e1 e2 e3 : ℤ) (r0 r1 r2 r3 : RowValues) (a g : List (List ℤ)) : Type 0 where
  pub grid : (K : RefinedMesh rounded) (c : ℕ) → Ends K c e0 e1 e2 e3 → AllRows K c r0 r1 r2 r3 → a ≡ a_grid K c → g ≡ b_grid K c
  pub square : Square 5 g
