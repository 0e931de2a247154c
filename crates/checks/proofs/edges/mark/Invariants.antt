-- `mark` meets its contract: the corners of the vertex from `at` on are in both columns, and counted. The chain falls.
use mathlib.Core.Path.{◌≡◌}
use lib.ListN.{length}
use Rattle.checks.proofs.columns.Chains.{On}
use Rattle.checks.proofs.columns.Chains.{CornersPassed}
use Rattle.checks.specs.edges.Entries.{MarkedFrom}
use Rattle.checks.proofs.edges.Marks.{RowsKept}
use Rattle.checks.proofs.edges.mark.Given as goal

abbrev pub invariant-loop-at : goal.invariant-loop-at
invariant-loop-at l =
    On l.corners l.u l.at × (length l.vertices ≡ length l.initial.vertices) × MarkedFrom l.corners l.table l.vertices l.u l.at × RowsKept l.initial.vertices l.vertices
    × CornersPassed l.corners l.u l.at l.n l.lowest

abbrev pub decreases-loop-at : goal.decreases-loop-at
decreases-loop-at l = l.at
