-- `arrange` meets its contract: before each turn k bodies are listed and marked; it stops where all are, or where none may come next.
use Rattle.nesting.proofs.Laws.{Filling}
use Rattle.nesting.proofs.arrange.Given as goal

abbrev pub invariant-loop-k : goal.invariant-loop-k
invariant-loop-k l =
    Filling l.holders l.marks l.order l.k
