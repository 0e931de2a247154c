-- `sampling::put_axis` meets its contract: before row k the states are those at k, and the rows before it are written.
use mathlib.Core.Path.{◌≡◌}
use Prim.Native.Nat.{◌+◌, ◌-◌, ◌*◌, ◌≤◌}
use lib.IntN.{pos}
use Rattle.bernstein.specs.declared.Matrix5.{Matrix5}
use Rattle.bernstein.specs.Sums.{polynomial_of, states_of}
use Rattle.sampling.specs.Grid.{samples_before, RowsPut}
use Rattle.sampling.proofs.put_axis.Given as goal

abbrev pub invariant-loop-k : goal.invariant-loop-k
invariant-loop-k l =
    (l.k ≤ l.n + 1) × (l.at ≡ 3 * samples_before l.n l.k + l.axis)
    × ((p : Matrix5) → l.initial.s ≡ states_of (polynomial_of p (pos l.n)) 0 → (l.s ≡ states_of (polynomial_of p (pos l.n)) l.k) × RowsPut p l.n l.axis l.k l.initial.points l.points)

abbrev pub decreases-loop-k : goal.decreases-loop-k
decreases-loop-k l = l.n + 1 - l.k
