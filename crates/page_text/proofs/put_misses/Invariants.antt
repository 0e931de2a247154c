-- After j turns the lines of the first j conditions were put.
use mathlib.Core.Path.{◌≡◌}
use lib.ListN.{length}
use Rattle.streams.specs.text.Text.{Put}
use Rattle.page_text.specs.Lines.{texts_below, condition_line}
use Rattle.page_text.proofs.put_misses.Given as goal

abbrev pub invariant-loop-j : goal.invariant-loop-j
invariant-loop-j l = (length l.lines ≡ length l.initial.lines) × Put l.initial.lines l.from (texts_below (condition_line l.numbers) l.j) l.lines l.at
