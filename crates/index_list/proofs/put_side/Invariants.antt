-- `put_side` meets its contract: before strip k the strips before it stand there.
use Rattle.index_list.proofs.Turns.{StripTurn}
use Rattle.index_list.proofs.put_side.Given as goal

abbrev pub invariant-loop-k : goal.invariant-loop-k
invariant-loop-k l = StripTurn l.tables.corners.now l.tables.low.now l.tables.table.now l.tables.levels.now l.starts l.c l.side l.initial.out l.at l.n l.five l.out l.lower l.to l.k
