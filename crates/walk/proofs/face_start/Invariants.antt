-- Going back stays in the face, and stops at its first corner.
use mathlib.Core.Path.{◌≡◌}
use mathlib.Core.List.{List}
use Prim.Native.Nat.{ℕ, ◌≤◌, ◌<◌}
use Rattle.paper.specs.Corners.{sum_of, first_of, previous}
use Rattle.walk.specs.Table.{to_previous, Column}
use Rattle.walk.proofs.face_start.Given as goal

abbrev pub invariant-loop-d : goal.invariant-loop-d
invariant-loop-d l =
    (l.d ≤ l.c) × ((sides : List ℕ) → Column l.table to_previous (previous sides) (sum_of sides) → l.c < sum_of sides → first_of sides l.d ≡ first_of sides l.c)

abbrev pub decreases-loop-d : goal.decreases-loop-d
decreases-loop-d l = l.d
