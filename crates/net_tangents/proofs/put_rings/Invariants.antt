-- `put_rings` meets its contract: before each turn the rings before are written, and the centre comes last.
use mathlib.Core.Path.{◌≡◌}
use mathlib.Core.List.{List}
use Prim.Native.Nat.{ℕ, ◌+◌, ◌-◌, ◌*◌}
use lib.IntN.{ℤ}
use Rattle.bernstein.specs.declared.Matrix5.{Matrix5}
use Rattle.strips.specs.PointRows.{FilledTo}
use Rattle.net_tangents.specs.Lanes.{lane_of, Lanes}
use Rattle.net_tangents.specs.Paired.{RingPairs}
use Rattle.net_tangents.proofs.put_rings.Given as goal

abbrev pub invariant-loop-k : goal.invariant-loop-k
invariant-loop-k l =
    (l.to ≡ l.at + 6 * (2 * (l.k * (2 * l.n - l.k - 1))))
    × ((F : ℕ → Matrix5) → Lanes F 0 24 0 l.initial.table → Lanes F 0 24 l.k l.table)
    × ((numbers : List ℤ) → Lanes (lane_of numbers l.n) 0 24 0 l.initial.table → (f : ℕ → ℤ) (old : List ℤ) → FilledTo f old l.at l.initial.out → RingPairs numbers l.n l.at f → FilledTo f old l.to l.out)
