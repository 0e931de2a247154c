-- After i turns the first i values stand in the space and the others are as they were.
use mathlib.Core.Path.{refl}
use native.Mathlib.Omega.{arith}
use Rattle.paper.specs.File.{side_in}
use Rattle.mesh.proofs.Fills.{filled_none, filled_step}
use Rattle.dms_lists.proofs.lists.read_bytes.Goals as goal

pub loop-i-init : goal.loop-i-init
loop-i-init c = filled_none (side_in c.args.file.now c.args.start) c.args.out.now

pub loop-i-preserved : goal.loop-i-preserved
loop-i-preserved c =
    let l = c.loop-i in
    filled_step (side_in c.args.file.now c.args.start) c.args.out.now l.i l.out _ 0 (omega arith) l.invariant refl
