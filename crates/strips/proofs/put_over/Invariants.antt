-- `put_over` meets its contract: after t turns the triangles over the first t segments stand there.
use Prim.Native.Nat.{◌*◌}
use Rattle.paper.specs.Sampling.{side_at}
use Rattle.strips.specs.PointRows.{strip_number, Fills}
use Rattle.strips.proofs.put_over.Given as goal

abbrev pub invariant-loop-t : goal.invariant-loop-t
invariant-loop-t l = Fills (strip_number (side_at l.side) l.lower l.upper) l.at (3 * l.t) l.initial.out l.out
