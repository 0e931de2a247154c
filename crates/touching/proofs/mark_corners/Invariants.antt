-- The corners below c have the marks of their vertices.
use Rattle.touching.proofs.Laws.{MarksCopied}
use Rattle.touching.proofs.mark_corners.Given as goal

abbrev pub invariant-loop-c : goal.invariant-loop-c
invariant-loop-c l = MarksCopied l.corners l.sharing l.marks l.c
