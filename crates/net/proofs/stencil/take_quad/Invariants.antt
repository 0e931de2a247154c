-- `net::stencil::take_quad` meets its contract. The invariant: r rows have the points towards the sides from the corner before c on, and the four walkers
-- stand at the corners of the face in turn, the first of them at the r-th.
use Rattle.net.specs.Drawn.{drawn}
use Rattle.net.specs.stencil.Taken.{FaceTaken}
use Rattle.net.proofs.stencil.Rings.{Quad}
use Rattle.net.proofs.stencil.take_quad.Given as goal

abbrev pub invariant-loop-r : goal.invariant-loop-r
invariant-loop-r l =
    FaceTaken (drawn l.count l.table l.points) l.c l.r l.initial.stencil l.stencil
    × Quad l.table l.c l.r l.before.corner l.here.corner l.next.corner l.far.corner
