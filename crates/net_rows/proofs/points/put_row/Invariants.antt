-- The first j numbers are placed.
use Rattle.std.proofs.Common.{take}
use Rattle.net_rows.specs.points.Placed.{PointsPlaced}
use Rattle.net_rows.proofs.points.put_row.Given as goal

abbrev pub invariant-loop-j : goal.invariant-loop-j
invariant-loop-j l = PointsPlaced l.initial.out l.out l.from (take l.j l.row)
