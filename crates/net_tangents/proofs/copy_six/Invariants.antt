-- `copy_six` meets its contract: before each turn the numbers before are copied.
use Prim.Native.Nat.{◌+◌}
use lib.ListN.{get_or}
use lib.IntN.{pos}
use Rattle.strips.specs.PointRows.{Fills}
use Rattle.net_tangents.proofs.copy_six.Given as goal

abbrev pub invariant-loop-e : goal.invariant-loop-e
invariant-loop-e l = Fills (λ x. get_or l.list (l.from + x) (pos 0)) l.at l.e l.initial.out l.out
