-- The vertices of the corners passed are marked.
use Rattle.touching.specs.Sharing.{AllMarked}
use Rattle.touching.proofs.mark_all.Given as goal

abbrev pub invariant-loop-u : goal.invariant-loop-u
invariant-loop-u l = AllMarked l.face 0 l.u-index l.initial.sharing l.sharing
