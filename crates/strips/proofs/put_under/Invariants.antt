-- `put_under` meets its contract: after i turns the triangles under the first i segments stand there.
use Prim.Native.Nat.{◌+◌, ◌*◌}
use Rattle.paper.specs.Sampling.{side_at}
use Rattle.strips.specs.PointRows.{strip_number, Fills}
use Rattle.strips.proofs.put_under.Given as goal

abbrev pub invariant-loop-i : goal.invariant-loop-i
invariant-loop-i l = Fills (λ x. strip_number (side_at l.side) l.lower l.upper (3 * l.lower.parts + x)) l.at (3 * l.i) l.initial.out l.out
