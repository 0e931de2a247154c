-- `put_corners` meets its contract: the parts before stand there.
use native.Mathlib.Omega.{arith}
use Rattle.index_list.proofs.Turns.{corners_room, corners_step, corners_end}
use Rattle.index_list.proofs.put_corners.Goals as goal

pub put_corner-to-requires-clause-room : goal.put_corner-to-requires-clause-room
put_corner-to-requires-clause-room c =
    λ M t. corners_room M t c.args.first c.args.count c.requires.starting.1 c.loop-c.c c.loop-c.to _ c.args.out.now c.loop-c.out (omega arith) (omega arith)
    (c.loop-c.invariant M t) (let r = c.requires.room M t in omega arith)

pub loop-c-preserved : goal.loop-c-preserved
loop-c-preserved c =
    λ M t. corners_step M t c.args.first c.args.count c.requires.starting.1 c.loop-c.c c.loop-c.to _ c.args.out.now c.loop-c.out _ (omega arith) (omega arith)
    (c.loop-c.invariant M t) (c.put_corner-to.ensures M t)

pub returns : goal.returns
returns c =
    let l = c.loop-c in λ M t. corners_end M t c.args.first c.args.count c.requires.starting.1 l.c l.to c.args.out.now l.out (omega arith) (l.invariant M t)
