-- `collect` meets its contract: the corners of the vertex from `at` on have their entries and valence. The chain falls, and stands below `at`.
use mathlib.Core.Path.{◌≡◌}
use lib.ListN.{length}
use Rattle.checks.proofs.columns.Chains.{On}
use Rattle.checks.proofs.edges.Collecting.{CollectedFrom}
use Rattle.checks.proofs.edges.collect.Given as goal

abbrev pub invariant-loop-at : goal.invariant-loop-at
invariant-loop-at l = On l.corners l.u l.at × (length l.table ≡ length l.initial.table) × CollectedFrom l.corners l.initial.table l.table l.u l.n l.at

abbrev pub decreases-loop-at : goal.decreases-loop-at
decreases-loop-at l = l.at
