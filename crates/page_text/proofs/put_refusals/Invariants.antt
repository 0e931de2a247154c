-- After l turns the lines of the first l numbers were put.
use mathlib.Core.Path.{◌≡◌}
use lib.ListN.{length}
use Rattle.streams.specs.text.Text.{Put}
use Rattle.page_text.specs.Lines.{texts_below, refusals_line}
use Rattle.page_text.proofs.put_refusals.Given as goal

abbrev pub invariant-loop-l : goal.invariant-loop-l
invariant-loop-l l = (length l.lines ≡ length l.initial.lines) × Put l.initial.lines l.from (texts_below (refusals_line l.numbers) l.l) l.lines l.at
