-- Each turn reads at least a byte, and there are turns only up to one byte past the length expected.
use Rattle.print.proofs.file_input.Lengths.{measured_short, measured_long}
use Rattle.print.proofs.file_input.count_on.Goals as goal

pub returns-after-loop-counted-clause-ok : goal.returns-after-loop-counted-clause-ok
returns-after-loop-counted-clause-ok g c =
    measured_long _ _ _ c.loop-counted.counted c.if-size-counted.true c.expected_length-most.ensures.0 c.loop-counted.invariant.0
    c.loop-counted.invariant.1

pub returns-in-Ok-eq0-clause-ok : goal.returns-in-Ok-eq0-clause-ok
returns-in-Ok-eq0-clause-ok g c =
    measured_long _ _ _ c.loop-counted.counted c.if-size-counted.true c.expected_length-most.ensures.0 c.loop-counted.invariant.0
    c.loop-counted.invariant.1

pub returns-in-Err-clause-err : goal.returns-in-Err-clause-err
returns-in-Err-clause-err g c =
    measured_long _ _ _ c.loop-counted.counted c.if-size-counted.true c.expected_length-most.ensures.0 c.loop-counted.invariant.0
    c.loop-counted.invariant.1

pub returns-else-size-counted-clause-ok : goal.returns-else-size-counted-clause-ok
returns-else-size-counted-clause-ok g c = measured_short _ _
