-- Each face is read whole, or ends the reading.
use Rattle.off_lists.proofs.Facing.{Facing}
use Rattle.off_lists.proofs.read_faces.Given as goal

abbrev pub invariant-loop-f : goal.invariant-loop-f
invariant-loop-f l =
    Facing l.text l.initial.next.word l.count l.initial.sides l.initial.corners l.sides l.corners l.f l.k l.next
