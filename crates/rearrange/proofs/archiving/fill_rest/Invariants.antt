-- Before each turn every plane holds the numbers below i.
use Rattle.planes.specs.Planes.{Planed}
use Rattle.rearrange.proofs.archiving.fill_rest.Given as goal

abbrev pub invariant-loop-i : goal.invariant-loop-i
invariant-loop-i l = Planed l.numbers l.i l.bytes
