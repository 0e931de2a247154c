-- One more number is placed.
use Rattle.std.proofs.Common.{◌+◌, ◌*◌, get_or, rules, refl, arith}
use lib.IntN.{pos}
use mir.Syntax.{w32}
use mir.Val.{SFits}
use mir.Facts.{to_z-of_z}
use Rattle.net_rows.proofs.points.Laws.{row_step}
use Rattle.net_rows.proofs.points.put_row.Goals as goal

pub loop-j-preserved : goal.loop-j-preserved
loop-j-preserved c =
    let l = c.loop-j in
    let f : SFits w32 (get_or c.args.row.now l.j (pos 0)) = search rules in
    rw (to_z-of_z f) (row_step c.args.out.now l.out c.args.from (c.args.from + 4 * l.j) l.j c.args.row.now
    (omega arith) refl (omega arith) l.invariant)
