-- `sampling::put_row` meets its contract: after j turns the state is that j places on, and the first j samples are written.
use mathlib.Core.Path.{◌≡◌}
use Prim.Native.Nat.{◌+◌}
use Rattle.bernstein.specs.declared.Vector5.{Vector5}
use Rattle.bernstein.specs.Sums.{state_of}
use Rattle.sampling.specs.Grid.{RowPut}
use Rattle.sampling.proofs.put_row.Given as goal

abbrev pub invariant-loop-j : goal.invariant-loop-j
invariant-loop-j l =
    (e : Vector5) → l.initial.g ≡ state_of e l.first → (l.g ≡ state_of e (l.first + l.j)) × RowPut e l.n l.first l.j l.from l.initial.points l.points
