-- `turn_sharpness` meets its contract: the pairs of the faces below `f` are written, the others stay.
use mathlib.Core.Path.{◌≡◌}
use Prim.Native.Nat.{◌≤◌}
use lib.ListN.{length}
use Rattle.paper.specs.Corners.{start_of}
use Rattle.reversing.specs.States.{turns_by}
use Rattle.reversing.proofs.Laws.{PairsTo}
use Rattle.reversing.proofs.turn_sharpness.Given as goal

abbrev pub invariant-loop-f : goal.invariant-loop-f
invariant-loop-f l =
    PairsTo (turns_by l.states) l.sides l.initial.pairs l.f l.pairs × (l.start ≡ start_of l.sides l.f) × (l.f ≤ length l.sides)
