-- `add_ahead` meets its contract: before each turn the numbers before are summed, and those from here on are as they were.
use Rattle.net_tangents.specs.Lanes.{Added}
use Rattle.net_tangents.proofs.add_ahead.Given as goal

abbrev pub invariant-loop-i : goal.invariant-loop-i
invariant-loop-i l = Added l.at l.i l.gap l.initial.list l.list
