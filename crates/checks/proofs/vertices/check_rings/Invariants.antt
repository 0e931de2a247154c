-- Check 13 meets its contract: no vertex before `u` is at fault.
use Rattle.checks.proofs.vertices.Laws.{RingsWhole}
use Rattle.checks.proofs.vertices.check_rings.Given as goal

abbrev pub invariant-loop-u : goal.invariant-loop-u
invariant-loop-u l = RingsWhole l.corners l.table l.u
