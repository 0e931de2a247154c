-- `fill_keys` meets its contract: the corners below `c` have their ends.
use mathlib.Core.Path.{subst}
use native.Mathlib.Omega.{arith}
use Rattle.partners.specs.Keys.{Keyed}
use Rattle.partners.proofs.Laws.{keys_none, keys_step}
use Rattle.partners.proofs.fill_keys.Goals as goal
use Rattle.partners.proofs.fill_keys.Goals.{In-loop-c}

pub loop-c-init : goal.loop-c-init
loop-c-init c = keys_none _ c.args.table.now _ _

pub loop-c-preserved : goal.loop-c-preserved
loop-c-preserved c =
    let n = c.loop-c-test.true in
    keys_step c.args.corners.now c.args.table.now n (omega (arith, c.requires.lows_long)) (omega (arith, c.requires.highs_long))
    c.min.ensures c.max.ensures c.loop-c.invariant

pub returns : goal.returns
returns c =
    let l = c.loop-c in
    subst (Keyed c.args.corners.now c.args.table.now l.lows l.highs) (omega (arith, c.loop-c-test.false)) l.invariant
