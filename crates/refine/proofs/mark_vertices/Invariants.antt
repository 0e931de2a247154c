-- The vertices of the first `k` corners of the range are marked.
use Rattle.refine.specs.Marks.{Marked}
use Rattle.refine.proofs.mark_vertices.Given as goal

abbrev pub invariant-loop-k : goal.invariant-loop-k
invariant-loop-k l = Marked l.corners l.first l.k l.marked
