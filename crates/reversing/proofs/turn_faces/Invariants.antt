-- `turn_faces` meets its contract: the faces below `f` are written, the corners of the others stay.
use mathlib.Core.Path.{◌≡◌}
use Prim.Native.Nat.{◌≤◌}
use lib.ListN.{length}
use Rattle.paper.specs.Corners.{start_of}
use Rattle.reversing.specs.States.{turns_by}
use Rattle.reversing.proofs.Laws.{WrittenTo}
use Rattle.reversing.proofs.turn_faces.Given as goal

abbrev pub invariant-loop-f : goal.invariant-loop-f
invariant-loop-f l =
    WrittenTo (turns_by l.states) l.sides l.initial.corners l.initial.listing l.f l.count l.corners l.listing × (l.start ≡ start_of l.sides l.f) × (l.f ≤ length l.sides)
