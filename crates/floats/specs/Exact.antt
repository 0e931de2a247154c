-- What the stages say to each other: the float of a whole number, and the floats of three differences.
use Rattle.std.specs.Prelude.{◌≡◌, Bool, true, false, List, ◌++◌, ℕ, ◌+◌, ◌/◌, ◌%◌, ◌≤◌, ◌<◌, length, get_or, drop, set, ℤ, pos, Float, Ok}
use Rattle.std.specs.Float.{binary32}
use Rattle.std.specs.Float.Ieee.{of_int}
use Rattle.paper.specs.Scan.{values_from}
use Rattle.paper.specs.Floats.{far_first, far_second, split, six_of, point_of, read_back, WholeFloat, point_stated, AllWhole}
use Rattle.paper.specs.declared.FloatPoint.{FloatPoint}

-- the float x reads back as z, and is the float of z
pub record FloatOf (z : ℤ) (x : Float) : Type 0 where
  pub reads : read_back x ≡ z
  pub whole : WholeFloat x

-- the first float's number, of a near or a far point
abbrev pub first_part : Bool → ℤ → ℤ
first_part true d = d
first_part false d = far_first d

pub record SplitTo (x y z : ℤ) (r : FloatPoint) : Type 0 where
  pub answers : point_stated (Ok r) ≡ split x y z
  pub whole : AllWhole r

-- the second float's number
abbrev pub second_part : Bool → ℤ → ℤ
second_part true d = pos 0
second_part false d = far_second d

-- ---- a list that is filled from the front: with the values of f before i, with what it held from i on
abbrev pub FloatsFilled : (ℕ → Float) → List Float → ℕ → List Float → Type 0
FloatsFilled f old i out = out ≡ values_from f 0 i ++ drop i old

-- the floats of whole numbers from `at` on, `count` of them: a list that was filled up to them is then filled with them, whatever the values of f before
abbrev pub Puts : (ℕ → ℤ) → ℕ → ℕ → List Float → List Float → Type 0
Puts v count at before after =
    (f : ℕ → Float) (old : List Float) → at + count ≤ length old → ((x : ℕ) → x < count → f (at + x) ≡ of_int binary32 (v x))
    → FloatsFilled f old at before → FloatsFilled f old (at + count) after

-- those of three differences, and those of a quad-net's points
abbrev pub SixPut : ℤ → ℤ → ℤ → ℕ → List Float → List Float → Type 0
SixPut x y z = Puts (λ e. get_or (six_of (split x y z)) e (pos 0)) 6

abbrev pub NetPut : List ℤ → ℕ → List Float → List Float → Type 0
NetPut net = Puts (λ x. get_or (six_of (point_of net (x / 6))) (x % 6) (pos 0)) 246

abbrev pub six_set : List Float → ℕ → Float → Float → Float → Float → Float → Float → List Float
six_set old at a b c d e f = set (set (set (set (set (set old at a) (at + 1) b) (at + 2) c) (at + 3) d) (at + 4) e) (at + 5) f
