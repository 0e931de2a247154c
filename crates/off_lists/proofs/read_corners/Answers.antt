-- Each word is a vertex number and is stored where there is room, or ends the reading.
use native.Mathlib.Omega.{arith}
use Rattle.std.proofs.lemmas.Result.{err_from_is_err_and}
use Rattle.paper.specs.Off.{vertex_number}
use Rattle.off_words.proofs.Cursors.{own}
use Rattle.off_lists.proofs.Readings.{reading_none, corner_stop, corner_step, reading_all}
use Rattle.off_lists.proofs.read_corners.Goals as goal

pub loop-i-init : goal.loop-i-init
loop-i-init c = reading_none _ vertex_number _ _ _ _ _ c.args.c c.requires.0

pub read_natural-requires : goal.read_natural-requires
read_natural-requires c = own _ _ _ c.loop-i.invariant.before

pub returns-in_err-n : goal.returns-in_err-n
returns-in_err-n c =
    let p = err_from_is_err_and c.from_residual.result c.from_residual.ensures.1 in
    let l = c.loop-i in
    rw (p.1, p.2)
    (corner_stop _ _ c.args.count c.args.at _ l.list l.i l.next l.invariant c.loop-i-test.true c.in_err-n.field-0.0 c.in_err-n.ensures)

pub loop-i-preserved : goal.loop-i-preserved
loop-i-preserved c =
    let l = c.loop-i in
    corner_step _ _ c.args.count c.args.at _ l.list l.i l.next l.invariant c.loop-i-test.true c.in_ok-n.n c.in_ok-n.ensures _ c.put.ensures

pub returns : goal.returns
returns c = let l = c.loop-i in reading_all _ vertex_number _ _ _ _ _ l.list l.i l.next l.invariant (omega arith)
