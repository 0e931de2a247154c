-- What is found is whether the vertex is among the corners passed: none, and one more.
use Rattle.std.proofs.Common.{sym, ap, ◌∙◌, zero-add}
use Rattle.paper.specs.Links.{vertex_of}
use Rattle.touching.proofs.Laws.{among_none, found_here, found_not}
use Rattle.touching.proofs.has_vertex.Goals as goal
use Rattle.touching.proofs.has_vertex.Goals.{then-u-vertex, else-u-vertex}

pub loop-u-init : goal.loop-u-init
loop-u-init c = sym (among_none _ _ _)

pub loop-u-preserved : goal.loop-u-preserved
loop-u-preserved c =
    let at = ap (vertex_of c.args.face.now) (zero-add c.loop-u.u-index) in
    elim c.if-u-vertex.branch [
      | then-u-vertex w ↦ w.found-is ∙ found_here _ 0 _ _ (at ∙ w.if-u-vertex.true)
      | else-u-vertex w ↦ w.found-is ∙ found_not _ 0 _ _ (λ q. w.if-u-vertex.false (sym at ∙ q)) c.loop-u.invariant
    ]
