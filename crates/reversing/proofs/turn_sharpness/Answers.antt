-- `turn_sharpness` meets its contract: the pairs of the faces below `f` are written, the others stay.
use mathlib.Core.Path.{sym}
use Prim.Native.Nat.{◌+◌, ◌*◌, ◌≤◌, ◌<◌}
use lib.ListN.{length, get_or}
use native.Mathlib.Omega.{arith}
use borrow.Author.Tests.{eq-eqb, ne_eqb}
use Rattle.paper.specs.Mesh.{most_corners}
use Rattle.mesh.proofs.Faces.{start_zero, start_next, start_ends}
use Rattle.reversing.proofs.Laws.{pairs_none, pairs_kept, pairs_step, pairs_all}
use Rattle.reversing.proofs.turn_sharpness.Goals as goal
use Rattle.reversing.proofs.turn_sharpness.Goals.{In-loop-f, then-states-f-eq-TURNED, else-states-f-eq-TURNED}

pub loop-f-init : goal.loop-f-init
loop-f-init c = (pairs_none _ _ _, sym (start_zero c.args.sides.now), omega arith)

-- In the loop: the face's pairs are of the list.
inside : (i : In-loop-f) → let l = i.loop-f in
    (0 < get_or i.args.sides.now l.f 0)
    × (l.start + get_or i.args.sides.now l.f 0 ≤ most_corners)
    × (2 * (l.start + get_or i.args.sides.now l.f 0) ≤ length l.pairs)
    × (length l.pairs ≤ 2 * most_corners)
inside i =
    let l = i.loop-f in
    let f = i.loop-f-test.true in
    let e = start_ends i.args.sides.now l.f f in (
      omega (arith, i.requires.least l.f f),
      omega (arith, e, l.invariant.1, i.requires.few_corners),
      omega (arith, e, l.invariant.1, i.requires.sums, l.invariant.0.same_length),
      omega (arith, i.requires.few_corners, i.requires.sums, l.invariant.0.same_length),
    )

pub loop-f-preserved : goal.loop-f-preserved
loop-f-preserved c =
    let l = c.loop-f in
    let f = c.loop-f-test.true in
    let sum = start_next c.args.sides.now l.f f in
    elim c.if-states-f-eq-TURNED.branch [
      | then-states-f-eq-TURNED u ↦ (
        rw u.pairs-is (pairs_step _ _ _ l.f l.pairs f l.invariant.0 (eq-eqb _ 2 u.if-states-f-eq-TURNED.true) u.turn_pairs.new.pairs u.turn_pairs.auto.pairs
            (rw (l.invariant.1, c.from.ensures) at u.turn_pairs.ensures)),
        omega (arith, sum, u.start-is),
        omega (arith, f),
      )
      | else-states-f-eq-TURNED u ↦ (
        rw u.pairs-is (pairs_kept _ _ _ l.f l.pairs f l.invariant.0 (ne_eqb _ 2 u.if-states-f-eq-TURNED.false)),
        omega (arith, sum, u.start-is),
        omega (arith, f),
      )
    ]

pub returns : goal.returns
returns c =
    let l = c.loop-f in
    pairs_all _ _ _ c.requires.sums l.f l.pairs (omega (arith, l.invariant.2, c.loop-f-test.false)) l.invariant.0

pub shape_of-pairs : goal.shape_of-pairs
shape_of-pairs c = c.loop-f.invariant.0.same_length

pub overflow_add-end : goal.overflow_add-end
overflow_add-end c = omega (arith, inside (goal.at.overflow_add-end c).In-loop-f)

pub turn_pairs-requires : goal.turn_pairs-requires
turn_pairs-requires c = omega (arith, inside (goal.at.turn_pairs-requires c).In-loop-f, c.from.ensures)
