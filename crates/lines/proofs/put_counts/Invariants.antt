-- The lines below m were put.
use mathlib.Core.Path.{◌≡◌}
use lib.ListN.{length}
use Rattle.streams.specs.text.Text.{Put}
use Rattle.lines.specs.Lines.{count_lines}
use Rattle.lines.proofs.put_counts.Given as goal

abbrev pub invariant-loop-m : goal.invariant-loop-m
invariant-loop-m l =
    (length l.lines ≡ length l.initial.lines) × Put l.initial.lines l.from (count_lines l.cornered l.sided l.m) l.lines l.at
