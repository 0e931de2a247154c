-- `fill_earliers` meets its contract: the heads hold the highest corner below `c` with each lower end, which is the earlier corner of `c`.
use Prim.Native.Nat.{◌<◌}
use lib.ListN.{length, get_or}
use Rattle.partners.proofs.Chains.{chains_none, chains_step, chains_all}
use native.Mathlib.Omega.{arith}
use Rattle.partners.proofs.fill_earliers.Goals as goal
use Rattle.partners.proofs.fill_earliers.Goals.{In-loop-c}

-- In the loop: the lower end of the corner is a vertex, and has a head.
inside : (i : In-loop-c) → get_or i.args.lows.now i.loop-c.c 0 < length i.loop-c.heads
inside i =
    omega (arith, i.requires.lows_in i.loop-c.c i.loop-c-test.true, i.requires.heads_long)

pub loop-c-preserved : goal.loop-c-preserved
loop-c-preserved c =
    let i = (goal.at.loop-c-preserved c).In-loop-c in
    let inv = i.loop-c.invariant in
    chains_step inv (omega (arith, c.requires.earliers_long)) (inside i)

pub loop-c-init : goal.loop-c-init
loop-c-init c = chains_none _ _ _ c.requires.blank

pub returns : goal.returns
returns c = chains_all (omega arith) c.loop-c.invariant
