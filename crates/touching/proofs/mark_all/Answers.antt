-- The vertices of the corners passed are marked: none, and one more.
use Rattle.std.proofs.Common.{◌+◌, ◌<◌, length, arith, zero-add}
use Rattle.paper.specs.Links.{vertex_of}
use Rattle.touching.proofs.Laws.{all_none, all_step}
use Rattle.touching.proofs.mark_all.Goals as goal

pub loop-u-init : goal.loop-u-init
loop-u-init c = all_none c.args.face.now 0 c.args.sharing.now

pub loop-u-preserved : goal.loop-u-preserved
loop-u-preserved c =
    let l = c.loop-u in
    let inside : vertex_of c.args.face.now (0 + l.u-index) < length l.sharing =
    rw (zero-add l.u-index) (omega (arith, l.auto.sharing, c.requires l.u-index c.loop-u-test.true)) in
    rw (zero-add l.u-index) at (all_step c.args.face.now 0 l.u-index c.args.sharing.now l.sharing l.auto.sharing inside l.invariant)
