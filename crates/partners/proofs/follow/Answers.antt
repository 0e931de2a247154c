-- `follow` meets its contract: the corners of the chain from `at` on are entered, the lowest last. The chain falls.
use mathlib.Core.Path.{◌≡◌}
use Prim.Native.Nat.{◌-◌, ◌<◌}
use lib.ListN.{length}
use native.Mathlib.Omega.{arith}
use borrow.Author.Rules.{rules}
use Rattle.checks.proofs.columns.Chains.{on_head, on_next, on_falls, at_in}
use Rattle.partners.proofs.Laws.{latest_none, latest_step, latest_all, afters_none, afters_step, afters_all}
use Rattle.partners.proofs.follow.Goals as goal
use Rattle.partners.proofs.follow.Goals.{In-loop-at, Start}

pub loop-at-init : goal.loop-at-init
loop-at-init c =
    let k = c.requires.walk.1 in (
      on_head _ _ _ k.chained c.args.u,
      latest_none k c.args.u c.requires.table,
      afters_none k c.args.u c.args.afters.now c.requires.afters.1,
    )

-- In the loop: the chain's entry is not 0, so its corner is one of the list.
corner-in : (i : In-loop-at) → i.loop-at.at - 1 < length i.args.ends.now.lows.now
corner-in i =
    at_in _ _ _ i.requires.walk.1.chained i.args.u i.loop-at.at i.loop-at.invariant.0 i.loop-at-test.true

pub own-requires : goal.own-requires
own-requires c = c.loop-at.invariant.1.inside _

pub loop-at-smaller : goal.loop-at-smaller
loop-at-smaller c =
    let i = (goal.at.loop-at-smaller c).In-loop-at in
    on_falls _ _ _ c.requires.walk.1.chained c.args.u i.loop-at.at i.loop-at.invariant.0 i.loop-at-test.true

pub loop-at-preserved : goal.loop-at-preserved
loop-at-preserved c =
    let i = (goal.at.loop-at-preserved c).In-loop-at in
    let k = c.requires.walk.1 in
    let l = i.loop-at in
    let n = i.loop-at-test.true in (
      on_next _ _ _ k.chained c.args.u l.at l.invariant.0 n,
      latest_step k c.args.u l.invariant.0 n l.invariant.1,
      afters_step k c.args.u l.invariant.0 n l.invariant.1 c.own.ensures l.afters (omega (arith, corner-in i, c.requires.afters.0)) l.invariant.2,
    )

pub returns : goal.returns
returns c =
    let l = c.loop-at in
    let z : l.at ≡ 0 = search rules in
    record {
      latest = latest_all c.requires.walk.1 c.args.u (rw z at l.invariant.1);
      below = afters_all c.requires.walk.1 c.args.u l.afters (rw z at l.invariant.2);
    }
