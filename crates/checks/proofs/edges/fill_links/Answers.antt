-- `fill_links` meets its contract: the corners of the vertices below `u` have their entries and valences, and those vertices are counted.
use mathlib.Core.Path.{refl, ◌∙◌}
use Rattle.checks.proofs.edges.Marks.{keyed_clear}
use Rattle.checks.proofs.edges.Collecting.{searchable_on, both_keyed_on, faces_same, faces_then}
use Rattle.checks.proofs.edges.Collecting.{below_none, valences_none, counted_none, below_more, valences_more, chains_more, heads_more, counted_more, found}
use native.Mathlib.Omega.{arith}
use Rattle.checks.proofs.edges.fill_links.Goals as goal

pub loop-u-init : goal.loop-u-init
loop-u-init c =
    let z = c.requires.clear in (
      omega arith,
      refl,
      refl,
      c.requires.walk.0,
      keyed_clear _ _ _ z.0 z.1,
      c.requires.walk.1,
      below_none _ _,
      valences_none _ _,
      faces_same _,
      counted_none _ _ z.2,
      c.requires.walk.2,
    )

pub loop-u-preserved : goal.loop-u-preserved
loop-u-preserved c =
    let taken = c.loop-u-test.true in
    let l = c.loop-u in
    let e = c.collect.ensures.faces in (
      omega (arith, taken),
      c.collect.auto.table ∙ l.invariant.1,
      c.mark-n.auto.vertices ∙ l.invariant.2,
      searchable_on _ l.table _ e l.vertices _ c.collect.auto.table c.mark-n.auto.vertices l.invariant.3,
      both_keyed_on _ l.table _ e _ c.mark-n.ensures.marks.keyed,
      chains_more _ l.table _ l.u c.collect.ensures l.invariant.5,
      below_more _ l.table _ l.u c.collect.ensures l.invariant.6,
      valences_more _ l.table _ l.u c.collect.ensures l.invariant.7,
      faces_then _ l.table _ e l.invariant.8,
      counted_more _ l.vertices _ l.u c.mark-n.ensures.count.1 c.mark-n.ensures.rest l.invariant.9,
      heads_more c.args.corners.now l.vertices _ l.u c.mark-n.ensures.rest l.invariant.10,
    )

pub returns : goal.returns
returns c =
    let l = c.loop-u in
    found _ l.u c.args.count c.loop-u-test.false c.requires.vertices.0 _ _ _ l.invariant.6 l.invariant.7 l.invariant.8 l.invariant.9
