-- `net::stencil::take_ring` meets its contract. The invariant: r rows have the points towards the sides from the corner before c on, and the walker stands
-- at the r-th corner.
use mathlib.Core.Path.{◌≡◌}
use Rattle.paper.specs.Scan.{iterate}
use Rattle.walk.specs.Table.{to_next, to_previous, entry}
use Rattle.net.specs.Drawn.{drawn}
use Rattle.net.specs.stencil.Taken.{FaceTaken}
use Rattle.net.proofs.stencil.take_ring.Given as goal

abbrev pub invariant-loop-r : goal.invariant-loop-r
invariant-loop-r l =
    FaceTaken (drawn l.count l.table l.points) l.c l.r l.initial.stencil l.stencil
    × (l.at.corner ≡ iterate l.r (entry l.table to_next) (entry l.table to_previous l.c))
