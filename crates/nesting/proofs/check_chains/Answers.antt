-- Check 23 meets its contract: no body before `b` is at fault.
use mathlib.Core.Path.{sym}
use Rattle.mesh.proofs.Scans.{fails_step}
use Rattle.mesh.proofs.Verdicts.{lowest_hit, lowest_none}
use Rattle.nesting.proofs.Laws.{no_end, an_end}
use native.Mathlib.Omega.{arith}
use Rattle.nesting.proofs.check_chains.Goals as goal

pub returns-then-not-marks-b : goal.returns-then-not-marks-b
returns-then-not-marks-b c =
    let h = c.loop-b-test.true in
    sym (lowest_hit 23 _ _ _ h (no_end _ _ c.requires.1 _ h c.if-not-marks-b.true) c.loop-b.invariant)

pub loop-b-preserved : goal.loop-b-preserved
loop-b-preserved c =
    fails_step _ _ c.loop-b.invariant (an_end _ _ c.requires.1 _ c.loop-b-test.true c.if-not-marks-b.false)

pub loop-b-init : goal.loop-b-init
loop-b-init c = λ j h. absurd (omega arith)

pub returns : goal.returns
returns c = sym (lowest_none 23 _ _ (λ j h. c.loop-b.invariant j (omega arith)))
