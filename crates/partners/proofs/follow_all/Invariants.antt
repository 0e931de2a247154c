-- `follow_all` meets its contract: the corners whose lower end is below `u` have their entries.
use Rattle.partners.specs.Keys.{LatestBelow, AftersBelow}
use Rattle.partners.proofs.follow_all.Given as goal

abbrev pub invariant-loop-u : goal.invariant-loop-u
invariant-loop-u l =
    LatestBelow l.ends.vertices l.ends.lows.now l.ends.highs.now l.table l.u × AftersBelow l.ends.lows.now l.ends.highs.now l.afters l.u
