-- `ring` meets its contract: after `len` steps the walker stands where that many links lead, and the start has not come back.
-- What is left of the bound falls.
use Rattle.walk.specs.Table.{to_link, entry}
use Rattle.checks.proofs.vertices.Laws.{RingWalked}
use Rattle.checks.proofs.vertices.ring.Given as goal

abbrev pub invariant-loop-left : goal.invariant-loop-left
invariant-loop-left l = RingWalked (entry l.table to_link) l.count l.start l.bound l.left l.len l.w.corner

abbrev pub decreases-loop-left : goal.decreases-loop-left
decreases-loop-left l = l.left
