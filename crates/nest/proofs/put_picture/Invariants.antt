-- The depth is at most one more than the turns made.
use Rattle.std.proofs.Common.{◌≤◌, ◌+◌}
use Rattle.nest.proofs.put_picture.Given as goal

abbrev pub invariant-loop-turn : goal.invariant-loop-turn
invariant-loop-turn l = l.depth ≤ l._turn + 1
