-- After i turns the first i numbers were put.
use mathlib.Core.Path.{◌≡◌}
use lib.ListN.{length}
use Rattle.streams.specs.text.Text.{Put}
use Rattle.page_text.specs.Lines.{texts_below, spaced_number}
use Rattle.page_text.proofs.put_all.Given as goal

abbrev pub invariant-loop-n : goal.invariant-loop-n
invariant-loop-n l = (length l.lines ≡ length l.initial.lines) × Put l.initial.lines l.from (texts_below (spaced_number l.numbers) l.n-index) l.lines l.at
