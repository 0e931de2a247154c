-- The vertices of the faces passed that have this one are marked: none, and those of one face more, which is a part of the list of corners.
use Rattle.std.proofs.Common.{◌+◌, ◌≤◌, length, get_or, refl, sym, arith}
use Rattle.paper.specs.Mesh.{most_corners}
use Rattle.mesh.proofs.Faces.{start_zero, start_next, start_ends}
use Rattle.face_sums.proofs.Parts.{part_named}
use Rattle.touching.proofs.Laws.{face_part, sharing_none, sharing_step}
use Rattle.touching.proofs.mark_vertices.Goals as goal
use Rattle.touching.proofs.mark_vertices.Goals.{In-loop-n}

-- the face's corners are of the list
inside : (i : In-loop-n)
    → (i.loop-n.start + get_or i.args.sides.now i.loop-n.n-index 0 ≤ length i.args.corners.now) × (length i.args.corners.now ≤ most_corners)
inside i =
    let h = i.requires.faces in
    (omega (arith, i.loop-n.invariant.0, start_ends i.args.sides.now i.loop-n.n-index i.loop-n-test.true, h.1), omega (arith, h.0.few, h.1))

pub loop-n-init : goal.loop-n-init
loop-n-init c =
    (sym (start_zero _), sharing_none c.args.sides.now c.args.corners.now c.args.vertex c.args.sharing.now c.requires.named.1)

pub overflow_add-end : goal.overflow_add-end
overflow_add-end c = omega (arith, inside (goal.at.overflow_add-end c).In-loop-n)

pub offset_bounds-corners-start : goal.offset_bounds-corners-start
offset_bounds-corners-start c = omega (arith, inside (goal.at.offset_bounds-corners-start c).In-loop-n)

pub slice_bounds-mark_face-end : goal.slice_bounds-mark_face-end
slice_bounds-mark_face-end c = (inside (goal.at.slice_bounds-mark_face-end c).In-loop-n).0

pub mark_face-requires : goal.mark_face-requires
mark_face-requires c =
    let l = c.loop-n in
    let k = inside (goal.at.mark_face-requires c).In-loop-n in
    part_named c.args.corners.now l.start (get_or c.args.sides.now l.n-index 0) _ refl k.0 _ (λ d h. omega (arith, c.requires.named.0 d h, l.auto.sharing))

pub loop-n-preserved : goal.loop-n-preserved
loop-n-preserved c =
    let l = c.loop-n in
    let k = inside (goal.at.loop-n-preserved c).In-loop-n in (
      omega (arith, start_next c.args.sides.now l.n-index c.loop-n-test.true, l.invariant.0),
      sharing_step c.args.sides.now c.args.corners.now c.args.vertex l.n-index l.sharing c.mark_face.new.sharing c.mark_face.auto.sharing l.invariant.1
          (rw (← l.invariant.0) (face_part c.args.corners.now l.start (get_or c.args.sides.now l.n-index 0) _ refl k.0 c.args.vertex _ _ c.mark_face.ensures)),
    )
