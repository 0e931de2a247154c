-- The first i rows are placed.
use Rattle.net_rows.proofs.points.Laws.{RowsPlaced}
use Rattle.net_rows.proofs.points.put_grid.Given as goal

abbrev pub invariant-loop-i : goal.invariant-loop-i
invariant-loop-i g l = RowsPlaced l.initial.out l.out l.from l.g g.row.N l.i
