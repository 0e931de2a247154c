-- `put_corner` meets its contract: the parts before stand there.
use native.Mathlib.Omega.{arith}
use Rattle.index_list.proofs.Turns.{corner_room, corner_step, corner_end}
use Rattle.index_list.proofs.put_corner.Goals as goal

pub put_side-to-requires-clause-room : goal.put_side-to-requires-clause-room
put_side-to-requires-clause-room c =
    λ M t. corner_room M t c.args.c c.requires.starting.1 c.loop-side.side c.args.at c.loop-side.to _ c.args.out.now c.loop-side.out (omega arith)
    (c.loop-side.invariant M t) (let r = c.requires.room M t in omega arith)

pub loop-side-preserved : goal.loop-side-preserved
loop-side-preserved c =
    λ M t. corner_step M t c.args.c c.requires.starting.1 c.loop-side.side c.args.at c.loop-side.to _ c.args.out.now c.loop-side.out _ (omega arith)
    (c.loop-side.invariant M t) (c.put_side-to.ensures M t)

pub returns : goal.returns
returns c =
    let l = c.loop-side in λ M t. corner_end M t c.args.c c.requires.starting.1 l.side c.args.at l.to c.args.out.now l.out (omega arith) (l.invariant M t)
