-- `net::stencil::take_corner` meets its contract. The invariant: the first i rows are those of the corners around.
use Rattle.net.proofs.stencil.Taken.{RowsTaken}
use Rattle.net.proofs.stencil.take_corner.Given as goal

abbrev pub invariant-loop-i : goal.invariant-loop-i
invariant-loop-i l = RowsTaken l.points l.corners l.i l.initial.stencil l.stencil
