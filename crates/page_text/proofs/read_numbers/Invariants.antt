-- After each turn the numbers up to it were read.
use Rattle.std.proofs.Common.{◌≡◌, length}
use Rattle.page_text.proofs.Pages.{Taken}
use Rattle.page_text.proofs.read_numbers.Given as goal

abbrev pub invariant-loop-number : goal.invariant-loop-number
invariant-loop-number l = (length l.number-items ≡ 21) × Taken l.line l.number-index l.at l.number-items
