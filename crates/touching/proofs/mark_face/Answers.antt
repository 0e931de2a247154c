-- `mark_face` meets its contract: where the face has the vertex all its vertices are marked, else none.
use mathlib.Core.Path.{sym, ◌∙◌}
use Rattle.std.proofs.Common.{length}
use Rattle.touching.proofs.Laws.{face_has, face_has_not}
use Rattle.touching.proofs.mark_face.Goals as goal

pub returns-then-has_vertex : goal.returns-then-has_vertex
returns-then-has_vertex c =
    face_has c.args.face.now c.args.vertex 0 (length c.args.face.now) c.args.sharing.now c.mark_all.new.sharing
    (sym c.has_vertex.ensures ∙ c.if-has_vertex.true) c.mark_all.ensures

pub returns-else-has_vertex : goal.returns-else-has_vertex
returns-else-has_vertex c =
    face_has_not c.args.face.now c.args.vertex 0 (length c.args.face.now) c.args.sharing.now
    (sym c.has_vertex.ensures ∙ c.if-has_vertex.false)
