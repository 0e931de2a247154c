-- `put_over_plain` meets its contract: after t turns the triangles over the first t segments stand there.
use mathlib.Core.Path.{◌≡◌}
use Prim.Native.Nat.{◌+◌, ◌*◌, ◌^◌, ◌≤◌, ◌<◌}
use Rattle.paper.specs.Sampling.{side_at}
use Rattle.strips.specs.PointRows.{strip_number, Fills}
use Rattle.strips.proofs.put_over_plain.Given as goal

abbrev pub invariant-loop-t : goal.invariant-loop-t
invariant-loop-t l =
    (l.w ≤ 15) × (l.lower.first + l.w + 1 < 2 ^ 32) × (l.upper.first + l.w < 2 ^ 32) × (l.lower.parts ≡ l.w + 1)
    × Fills (strip_number (side_at l.side) l.lower l.upper) l.at (3 * l.t) l.initial.out l.out
