-- A side count, stored where there is room, and then its corners.
use native.Mathlib.Omega.{arith}
use Rattle.std.proofs.lemmas.Result.{err_from_is_err_and}
use Rattle.off_words.proofs.Cursors.{own}
use Rattle.off_lists.proofs.Facing.{face_none, face_stop, face_read}
use Rattle.off_lists.proofs.read_face.Goals as goal

pub returns-in_err-s : goal.returns-in_err-s
returns-in_err-s c =
    let p = err_from_is_err_and c.from_residual.result c.from_residual.ensures.1 in
    rw (p.1, p.2) (face_none _ c.args.c c.args.face c.args.at _ _ c.in_err-s.field-0.0 c.in_err-s.ensures _ _)

pub read_corners-requires : goal.read_corners-requires
read_corners-requires c = let s = c.in_ok-s.ensures in (own _ _ _ s.there.next, omega (arith, c.requires.1, s.there.within))

pub returns-in_err-next : goal.returns-in_err-next
returns-in_err-next c =
    let p = err_from_is_err_and c.from_residual-in_err-next.result c.from_residual-in_err-next.ensures.1 in
    rw (p.1, p.2)
    (face_stop _ c.args.c c.args.face c.args.at _ _ _ _ c.in_ok-s.s c.in_ok-s.ensures c.put.ensures _ c.read_corners.ensures
    c.in_err-next.field-0.0 c.in_err-next.was)

pub returns : goal.returns
returns c =
    face_read _ c.args.c c.args.face c.args.at _ _ _ _ c.in_ok-s.s c.in_ok-s.ensures c.put.ensures _ c.read_corners.ensures c.in_ok-next.next
    c.in_ok-next.was
