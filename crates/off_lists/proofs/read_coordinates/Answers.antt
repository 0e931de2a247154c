-- Each word is a number and is stored where there is room, or ends the reading.
use mir.Syntax.{w32}
use mir.Val.{SFits}
use mir.ValLaws.{to_z-of_z}
use native.Mathlib.Omega.{arith}
use borrow.Author.Rules.{rules}
use Rattle.std.proofs.lemmas.Result.{err_from_is_err_and}
use Rattle.paper.specs.Off.{coordinate}
use Rattle.off_words.proofs.Cursors.{own}
use Rattle.off_lists.proofs.Naturals.{turned}
use Rattle.off_lists.proofs.Readings.{reading_none, coordinate_stop, coordinate_step, reading_all}
use Rattle.off_lists.proofs.read_coordinates.Goals as goal

pub loop-i-init : goal.loop-i-init
loop-i-init c = reading_none _ coordinate _ _ _ 0 _ c.args.c c.requires

pub number-requires : goal.number-requires
number-requires c = own _ _ _ c.loop-i.invariant.before

pub returns-in_err-n : goal.returns-in_err-n
returns-in_err-n c =
    let p = err_from_is_err_and c.from_residual.result c.from_residual.ensures.1 in
    let o = turned c.number.result c.bad_word.result c.in_err-n.field-0.0 c.in_err-n.ensures.value in
    let l = c.loop-i in
    rw (p.1, p.2, o.1, c.bad_word.ensures)
    (coordinate_stop _ _ c.args.count _ l.list l.i l.next l.invariant c.loop-i-test.true (rw o.0 at c.number.ensures))

pub loop-i-preserved : goal.loop-i-preserved
loop-i-preserved c =
    let l = c.loop-i in
    let n = c.in_ok-n.n in
    let fits : SFits w32 n.value = search rules in
    coordinate_step _ _ c.args.count _ l.list l.i l.next l.invariant c.loop-i-test.true n (rw c.in_ok-n.ensures.ok_part at c.number.ensures) _
    (to_z-of_z w32 n.value fits) _ c.put.ensures

pub returns : goal.returns
returns c = let l = c.loop-i in reading_all _ coordinate _ _ _ 0 _ l.list l.i l.next l.invariant (omega arith)
