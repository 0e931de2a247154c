-- Each turn passes one digit more; before one more is appended the value is small enough for it.
use Rattle.page_text.specs.Reading.{DigitsPassed}
use Rattle.page_text.proofs.read_digits.Given as goal

abbrev pub invariant-loop-at : goal.invariant-loop-at
invariant-loop-at l = DigitsPassed l.line l.from l.at l.value
