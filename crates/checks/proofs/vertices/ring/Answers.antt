-- `ring` meets its contract: after `len` steps the walker stands where that many links lead, and the start has not come back.
-- What is left of the bound falls.
use Rattle.walk.specs.Table.{to_link, entry}
use Rattle.checks.proofs.vertices.Laws.{around_start, ring_none, ring_back, around_next}
use native.Mathlib.Omega.{arith}
use borrow.Author.Rules.{rules}
use Rattle.checks.proofs.vertices.ring.Goals as goal

pub linked-w-requires : goal.linked-w-requires
linked-w-requires c = let l = c.loop-left in omega (arith, l.invariant.within, c.requires.1.long)

pub loop-left-preserved : goal.loop-left-preserved
loop-left-preserved c =
    around_next (entry c.args.table.now to_link) c.args.count c.args.start c.args.bound c.loop-left.left c.loop-left.len c.loop-left.w.corner c.loop-left.invariant
    (search rules) c.linked-w.result.corner c.linked-w.ensures.read (c.requires.1.links_in c.loop-left.w.corner c.loop-left.invariant.within) c.if-at-start.false

pub returns-then-left-eq0 : goal.returns-then-left-eq0
returns-then-left-eq0 c =
    let l = c.loop-left in
    ring_none (entry c.args.table.now to_link) c.args.count c.args.start c.args.bound l.left l.len l.w.corner l.invariant (search rules)

pub returns-then-at-start : goal.returns-then-at-start
returns-then-at-start c =
    ring_back (entry c.args.table.now to_link) c.args.count c.args.start c.args.bound c.loop-left.left c.loop-left.len c.loop-left.w.corner c.loop-left.invariant
    (search rules) c.linked-w.result.corner c.linked-w.ensures.read c.if-at-start.true

pub loop-left-init : goal.loop-left-init
loop-left-init c = around_start _ _ _ _ c.requires.0
