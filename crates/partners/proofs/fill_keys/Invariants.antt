-- `fill_keys` meets its contract: the corners below `c` have their ends.
use Rattle.partners.specs.Keys.{Keyed}
use Rattle.partners.proofs.fill_keys.Given as goal

abbrev pub invariant-loop-c : goal.invariant-loop-c
invariant-loop-c l =
    Keyed l.corners l.table l.lows l.highs l.c
