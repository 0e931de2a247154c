-- No vertex, one vertex, or the first one, the fours and the rest.
use Rattle.rearrange.proofs.archiving.Planes.{planed_none, planed_all}
use native.Mathlib.Omega.{arith}
use Rattle.rearrange.proofs.archiving.fill_planes.Goals as goal

pub returns-then-n-eq0 : goal.returns-then-n-eq0
returns-then-n-eq0 c =
    let list = c.args.numbers.now in
    planed_all list 0 c.args.bytes.now (omega arith) (planed_none list c.args.bytes.now c.requires.1)

pub returns-then-n-eq3 : goal.returns-then-n-eq3
returns-then-n-eq3 c =
    planed_all _ 3 _ (omega arith) c.put_first.ensures
