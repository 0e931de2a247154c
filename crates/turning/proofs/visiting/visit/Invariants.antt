-- `visit` meets its contract: the invariant is that the corners below `c` are settled.
use Rattle.turning.specs.visiting.Visit.{Visiting}
use Rattle.turning.proofs.visiting.visit.Given as goal

abbrev pub invariant-loop-c : goal.invariant-loop-c
invariant-loop-c l =
    Visiting l.tables.sides.now l.tables.corners.now l.f l.initial.states l.initial.queue l.tail l.states l.queue l.next l.c
