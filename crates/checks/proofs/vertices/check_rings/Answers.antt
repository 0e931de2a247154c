-- Check 13 meets its contract: no vertex before `u` is at fault.
use Prim.Native.Nat.{◌<◌}
use Rattle.checks.proofs.vertices.Laws.{whole_none, whole_more, whole_torn, whole_all, lowest_in}
use native.Mathlib.Omega.{arith}
use borrow.Author.Rules.{rules}
use Rattle.checks.proofs.vertices.check_rings.Goals as goal

pub ring-len-requires : goal.ring-len-requires
ring-len-requires c =
    let h : c.loop-u.u < c.args.count = search rules in
    let i = lowest_in c.args.corners.now c.loop-u.u (c.requires.links.1 c.loop-u.u h) in
    (omega (arith, i, c.requires.counted.2.lowest_is c.loop-u.u i), c.requires.links.0)

pub returns-then-len-n : goal.returns-then-len-n
returns-then-len-n c =
    let h : c.loop-u.u < c.args.count = search rules in
    whole_torn c.args.corners.now c.args.table.now c.loop-u.u c.args.count c.loop-u.invariant c.requires.links.1 h c.args.vertices.now c.requires.counted.2
    c.ring-len.result c.ring-len.ensures c.if-len-n.true

pub loop-u-preserved : goal.loop-u-preserved
loop-u-preserved c =
    let h : c.loop-u.u < c.args.count = search rules in
    whole_more c.args.corners.now c.args.table.now c.loop-u.u c.args.count c.loop-u.invariant c.requires.links.1 h c.args.vertices.now c.requires.counted.2
    c.ring-len.result c.ring-len.ensures c.if-len-n.false

pub returns : goal.returns
returns c =
    let l = c.loop-u in
    whole_all c.args.corners.now c.args.table.now l.u c.args.count l.invariant c.loop-u-test.false

pub loop-u-init : goal.loop-u-init
loop-u-init c = whole_none _ _
