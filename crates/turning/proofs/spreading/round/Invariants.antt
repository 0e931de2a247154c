-- `round` meets its contract: the faces of the queue before `head` are settled, and each visit adds to the queue what it reaches.
-- The states before the round are those at the function's entry, which the invariant takes as any list.
use mathlib.Core.List.{List}
use Prim.Native.Nat.{ℕ, ◌+◌, ◌-◌}
use lib.ListN.{length}
use Rattle.turning.proofs.spreading.Laws.{Rounding}
use Rattle.turning.proofs.spreading.round.Given as goal

abbrev pub invariant-loop-head : goal.invariant-loop-head
invariant-loop-head l =
    (old : List ℕ) → Rounding l.tables.sides.now l.tables.corners.now l.r l.from old l.initial.states l.initial.queue l.from (l.from + 1) → Rounding l.tables.sides.now l.tables.corners.now l.r l.from old l.states l.queue l.head l.tail

abbrev pub decreases-loop-head : goal.decreases-loop-head
decreases-loop-head l =
    length l.tables.sides.now - l.head
