-- `turn_faces` meets its contract: the faces below `f` are written, the corners of the others stay.
use mathlib.Core.Path.{sym}
use Prim.Native.Nat.{◌+◌, ◌≤◌, ◌<◌}
use lib.ListN.{length, get_or}
use native.Mathlib.Omega.{arith}
use borrow.Author.Tests.{eq-eqb, ne_eqb}
use Rattle.paper.specs.Mesh.{most_corners}
use Rattle.mesh.proofs.Faces.{start_zero, start_next, start_ends}
use Rattle.reversing.proofs.Laws.{written_none, written_kept, written_turned, written_all}
use Rattle.reversing.proofs.turn_faces.Goals as goal
use Rattle.reversing.proofs.turn_faces.Goals.{In-loop-f, then-states-f-eq-TURNED, else-states-f-eq-TURNED}

pub loop-f-init : goal.loop-f-init
loop-f-init c = (written_none _ _ _ _, sym (start_zero c.args.sides.now), omega arith)

-- In the loop: the face's corners are of the list.
inside : (i : In-loop-f) → let l = i.loop-f in
    (0 < get_or i.args.sides.now l.f 0)
    × (l.start + get_or i.args.sides.now l.f 0 ≤ length l.corners)
    × (length l.corners ≤ most_corners)
inside i =
    let l = i.loop-f in
    let f = i.loop-f-test.true in
    let e = start_ends i.args.sides.now l.f f in (
      omega (arith, i.requires.least l.f f),
      omega (arith, e, l.invariant.1, i.requires.sums, l.invariant.0.corners_to.same_length),
      omega (arith, i.requires.few_corners, l.invariant.0.corners_to.same_length),
    )

pub loop-f-preserved : goal.loop-f-preserved
loop-f-preserved c =
    let l = c.loop-f in
    let f = c.loop-f-test.true in
    let sum = start_next c.args.sides.now l.f f in
    elim c.if-states-f-eq-TURNED.branch [
      | then-states-f-eq-TURNED u ↦ (
        rw (u.corners-is, u.listing-is, u.count-is) (written_turned f l.invariant.0 (eq-eqb _ 2 u.if-states-f-eq-TURNED.true) u.turn_face.new.corners
            u.turn_face.auto.corners (omega (arith, c.requires.listing_long)) (rw (l.invariant.1, c.from.ensures) at u.turn_face.ensures)),
        omega (arith, sum, u.start-is),
        omega (arith, f),
      )
      | else-states-f-eq-TURNED u ↦ (
        rw (u.corners-is, u.listing-is, u.count-is) (written_kept f l.invariant.0 (ne_eqb _ 2 u.if-states-f-eq-TURNED.false)),
        omega (arith, sum, u.start-is),
        omega (arith, f),
      )
    ]

pub returns : goal.returns
returns c =
    written_all c.requires.sums (omega (arith, c.loop-f.invariant.2, c.loop-f-test.false)) c.loop-f.invariant.0

pub shape_of-corners : goal.shape_of-corners
shape_of-corners c = c.loop-f.invariant.0.corners_to.same_length

pub shape_of-listing : goal.shape_of-listing
shape_of-listing c = c.loop-f.invariant.0.same_listing

pub overflow_add-end : goal.overflow_add-end
overflow_add-end c = omega (arith, inside (goal.at.overflow_add-end c).In-loop-f)

pub turn_face-requires : goal.turn_face-requires
turn_face-requires c = omega (arith, inside (goal.at.turn_face-requires c).In-loop-f, c.from.ensures)
