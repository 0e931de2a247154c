-- `put_lane` meets its contract: before each turn the numbers before stand there.
use Rattle.net_tangents.proofs.Laws.{LaneTo}
use Rattle.net_tangents.proofs.put_lane.Given as goal

abbrev pub invariant-loop-s : goal.invariant-loop-s
invariant-loop-s l = LaneTo l.ten l.lane l.s l.initial.table l.table
