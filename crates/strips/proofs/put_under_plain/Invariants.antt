-- `put_under_plain` meets its contract: after i turns the triangles under the first i segments stand there.
use mathlib.Core.Path.{◌≡◌}
use Prim.Native.Nat.{◌+◌, ◌*◌, ◌^◌, ◌≤◌, ◌<◌}
use Rattle.paper.specs.Sampling.{side_at}
use Rattle.strips.specs.PointRows.{strip_number, Fills}
use Rattle.strips.proofs.put_under_plain.Given as goal

abbrev pub invariant-loop-i : goal.invariant-loop-i
invariant-loop-i l =
    (l.w + 1 ≡ l.upper.parts) × (l.w ≤ 14) × (l.lower.base + l.w < 2 ^ 32) × (l.upper.first + l.w + 1 < 2 ^ 32)
    × Fills (λ x. strip_number (side_at l.side) l.lower l.upper (3 * l.lower.parts + x)) l.at (3 * l.i) l.initial.out l.out
