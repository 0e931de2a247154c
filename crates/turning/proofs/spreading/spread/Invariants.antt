-- `spread` meets its contract: the faces below `r` are reached and settled, and the lowest of each part is kept.
use Rattle.turning.proofs.spreading.Laws.{Spreading}
use Rattle.turning.proofs.spreading.spread.Given as goal

abbrev pub invariant-loop-r : goal.invariant-loop-r
invariant-loop-r l =
    Spreading l.tables.sides.now l.tables.corners.now l.r l.states l.queue l.tail
