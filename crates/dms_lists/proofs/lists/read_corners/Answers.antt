-- After c turns the first c values stand in the space and the others are as they were.
use native.Mathlib.Omega.{arith}
use Rattle.paper.specs.File.{corner_in}
use Rattle.mesh.proofs.Fills.{filled_none, filled_step}
use Rattle.dms_lists.proofs.lists.read_corners.Goals as goal

pub loop-c-init : goal.loop-c-init
loop-c-init c = filled_none (corner_in c.args.file.now c.args.start) c.args.out.now

pub loop-c-preserved : goal.loop-c-preserved
loop-c-preserved c =
    let l = c.loop-c in
    filled_step (corner_in c.args.file.now c.args.start) c.args.out.now l.c l.out _ 0 (omega arith) l.invariant c.half.ensures.0
