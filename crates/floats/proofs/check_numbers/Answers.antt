-- Check 19 meets its contract: no number before `i` is at fault.
use mathlib.Core.Path.{sym, ap, ◌∙◌}
use mathlib.Core.Bool.{not}
use Rattle.mesh.proofs.Scans.{fails_step}
use Rattle.mesh.proofs.Verdicts.{lowest_hit, lowest_none}
use Rattle.floats.proofs.Laws.{number_tested}
use native.Mathlib.Omega.{arith}
use Rattle.floats.proofs.check_numbers.Goals as goal

pub returns-then-not-is_within : goal.returns-then-not-is_within
returns-then-not-is_within c =
    let t = number_tested c.args.numbers.now c.loop-i.i (record { sfits = omega arith }) c.is_within.ensures in
    sym (lowest_hit 19 _ _ _ c.loop-i-test.true (t ∙ ap not c.if-not-is_within.true) c.loop-i.invariant)

pub loop-i-preserved : goal.loop-i-preserved
loop-i-preserved c =
    let t = number_tested c.args.numbers.now c.loop-i.i (record { sfits = omega arith }) c.is_within.ensures in
    fails_step _ _ c.loop-i.invariant (t ∙ ap not c.if-not-is_within.false)

pub loop-i-init : goal.loop-i-init
loop-i-init c = λ j h. absurd (omega arith)

pub returns : goal.returns
returns c = sym (lowest_none 19 _ _ (λ j h. c.loop-i.invariant j (omega arith)))
