-- `follow_all` meets its contract: the corners whose lower end is below `u` have their entries.
use native.Mathlib.Omega.{arith}
use Rattle.partners.proofs.Laws.{below_none}
use Rattle.partners.proofs.follow_all.Goals as goal

pub loop-u-init : goal.loop-u-init
loop-u-init c =
    (below_none _ _ _ _ c.requires.room.0 c.requires.room.1, λ x l b. absurd (omega arith))

pub follow-requires : goal.follow-requires
follow-requires c =
    let inv = c.loop-u.invariant in
    record {
      walk = (c.loop-u-test.true, c.requires.walk);
      table = inv.0;
      afters = (omega (arith, c.requires.room.2), inv.1);
    }

pub returns : goal.returns
returns c x h =
    c.loop-u.invariant.1 x h (omega (arith, c.requires.walk.lows_in x h, c.loop-u-test.false))
