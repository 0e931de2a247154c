-- `put_ring` meets its contract: before each turn the sides before are written.
use mathlib.Core.Path.{◌≡◌}
use mathlib.Core.List.{List}
use Prim.Native.Nat.{ℕ, ◌+◌, ◌*◌, ◌≤◌}
use lib.IntN.{ℤ}
use Rattle.strips.specs.PointRows.{FilledTo}
use Rattle.net_tangents.specs.Lanes.{lane_of, Lanes}
use Rattle.net_tangents.specs.Paired.{RingAim}
use Rattle.net_tangents.proofs.put_ring.Given as goal

abbrev pub invariant-loop-side : goal.invariant-loop-side
invariant-loop-side l =
    (l.to ≡ l.at + 6 * (l.side * l.w))
    × ((numbers : List ℤ) (n k : ℕ) → Lanes (lane_of numbers n) 0 24 k l.table → k + l.w ≤ n → (f : ℕ → ℤ) (old : List ℤ) → FilledTo f old l.at l.initial.out → RingAim numbers n k l.w l.at f
    → FilledTo f old l.to l.out)
