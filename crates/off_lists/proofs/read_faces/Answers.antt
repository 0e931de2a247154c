-- Each face is read whole, or ends the reading.
use native.Mathlib.Omega.{arith}
use mathlib.Core.Path.{refl}
use Rattle.std.proofs.lemmas.Result.{err_from_is_err_and}
use Rattle.off_lists.proofs.Facing.{facing_none, facing_step, facing_stop, facing_all}
use Rattle.off_lists.proofs.read_faces.Goals as goal

pub loop-f-init : goal.loop-f-init
loop-f-init c = facing_none _ _ c.args.count _ _ c.args.c refl c.requires.0

pub returns-in_err-face : goal.returns-in_err-face
returns-in_err-face c =
    let p = err_from_is_err_and c.from_residual.result c.from_residual.ensures.1 in
    let l = c.loop-f in
    rw (p.1, p.2)
    (facing_stop _ _ c.args.count _ _ l.sides l.corners l.f l.k l.next l.invariant c.loop-f-test.true _ _ c.in_err-face.field-0.0 c.in_err-face.ensures)

pub loop-f-preserved : goal.loop-f-preserved
loop-f-preserved c =
    let l = c.loop-f in
    facing_step _ _ c.args.count _ _ l.sides l.corners l.f l.k l.next l.invariant c.loop-f-test.true _ _ c.in_ok-face.face c.in_ok-face.ensures

pub returns : goal.returns
returns c = let l = c.loop-f in facing_all _ _ _ _ _ l.sides l.corners l.f l.k l.next l.invariant (omega arith)
