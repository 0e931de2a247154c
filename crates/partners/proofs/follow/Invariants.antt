-- `follow` meets its contract: the corners of the chain from `at` on are entered, the lowest last. The chain falls.
use Rattle.checks.proofs.columns.Chains.{On}
use Rattle.partners.specs.Keys.{Latest, AftersTo}
use Rattle.partners.proofs.follow.Given as goal

abbrev pub invariant-loop-at : goal.invariant-loop-at
invariant-loop-at l =
    On l.ends.lows.now l.u l.at × Latest l.ends.vertices l.ends.lows.now l.ends.highs.now l.table l.u l.at × AftersTo l.ends.lows.now l.ends.highs.now l.afters l.u l.at

abbrev pub decreases-loop-at : goal.decreases-loop-at
decreases-loop-at l = l.at
