-- One coordinate or corner more.
use mathlib.Core.Path.{◌≡◌, refl}
use mathlib.Core.List.{List, [], ◌++◌}
use Prim.Native.Nat.{ℕ, ◌+◌}
use native.Mathlib.Numerals.{add-one}
use lib.ListN.{get_or}
use lib.IntN.{ℤ, pos}
use Rattle.dms_output.specs.Bytes.{half_bytes, word_bytes, coordinate_bytes, corner_bytes}

pub no_coordinates : (l : List ℤ) → [] ≡ coordinate_bytes l 0
unfolding coordinate_bytes
no_coordinates l = refl

pub next_coordinate : (l : List ℤ) (i : ℕ) → coordinate_bytes l i ++ word_bytes (get_or l i (pos 0)) ≡ coordinate_bytes l (i + 1)
unfolding coordinate_bytes
next_coordinate l i = rw (add-one i)

pub no_corners : (l : List ℕ) → [] ≡ corner_bytes l 0
unfolding corner_bytes
no_corners l = refl

pub next_corner : (l : List ℕ) (c : ℕ) → corner_bytes l c ++ half_bytes (get_or l c 0) ≡ corner_bytes l (c + 1)
unfolding corner_bytes
next_corner l c = rw (add-one c)
