-- `fill_lanes` meets its contract: before each turn the lanes of the axes before are filled.
use Rattle.net_tangents.specs.Lanes.{lane_of, LanesFilled}
use Rattle.net_tangents.proofs.fill_lanes.Given as goal

abbrev pub invariant-loop-axis : goal.invariant-loop-axis
invariant-loop-axis l = LanesFilled (lane_of l.numbers l.n) l.from l.axis l.table
