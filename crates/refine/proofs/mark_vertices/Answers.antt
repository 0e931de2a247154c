-- The vertices of the first `k` corners of the range are marked: none, and one more.
use Rattle.std.proofs.Common.{◌+◌, arith}
use Rattle.refine.proofs.Marks.{marked_none, marked_set}
use Rattle.refine.proofs.mark_vertices.Goals as goal

pub loop-k-init : goal.loop-k-init
loop-k-init c = marked_none c.args.corners.now c.args.marked.now c.args.first c.requires.named.1

pub loop-k-preserved : goal.loop-k-preserved
loop-k-preserved c =
    let l = c.loop-k in
    marked_set c.args.corners.now l.marked c.args.first l.k l.invariant
    (omega (arith, l.auto.marked, c.requires.named.0 (c.args.first + l.k) (omega (arith, c.requires.range))))
