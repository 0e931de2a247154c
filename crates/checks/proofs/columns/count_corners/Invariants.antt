-- `count_corners` meets its contract: the corners from `c` on are counted, and the lowest of them is noted.
use mathlib.Core.Path.{◌≡◌}
use Prim.Native.Nat.{◌≤◌}
use lib.ListN.{length}
use Rattle.checks.proofs.columns.Laws.{CountedFrom}
use Rattle.checks.proofs.columns.count_corners.Given as goal

abbrev pub invariant-loop-c : goal.invariant-loop-c
invariant-loop-c l = (l.c ≤ length l.corners) × (length l.vertices ≡ length l.initial.vertices) × CountedFrom l.corners l.vertices l.c
