-- Before each turn the sums are those of the places before it, with equal weights.
use Rattle.faces.proofs.Round.{RingTurn, equal}
use mir.Syntax.{w64}
use mir.Val.{of_z}
use Rattle.faces.proofs.ring_centre.Given as goal

abbrev pub invariant-loop : goal.invariant-loop
invariant-loop l = RingTurn l.points l.table l.column l.c l.m equal l.counter l.at.corner (of_z w64 l.x) (of_z w64 l.y) (of_z w64 l.z)
