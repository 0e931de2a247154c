-- Before the turn at j the sums are those of the places below j, and the last cosine is that of the place before.
use mathlib.Core.Path.{◌≡◌}
use Prim.Native.Nat.{◌+◌, ◌-◌}
use mir.Syntax.{w64}
use mir.Val.{of_z}
use Rattle.paper.specs.Cosines.{cosine}
use Rattle.paper.specs.Face.{weight}
use Rattle.faces.proofs.Round.{RingTurn}
use Rattle.faces.proofs.ring_toward.Given as goal

abbrev pub invariant-loop-j : goal.invariant-loop-j
invariant-loop-j l =
    RingTurn l.points l.table l.column l.c l.m (weight l.m) l.j l.at.corner (of_z w64 l.x) (of_z w64 l.y) (of_z w64 l.z) × (l.last ≡ cosine l.m (l.j + (l.m - 1)))
