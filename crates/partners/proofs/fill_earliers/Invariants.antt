-- `fill_earliers` meets its contract: the heads hold the highest corner below `c` with each lower end, which is the earlier corner of `c`.
use Rattle.partners.proofs.Chains.{EndChainsTo}
use Rattle.partners.proofs.fill_earliers.Given as goal

abbrev pub invariant-loop-c : goal.invariant-loop-c
invariant-loop-c l =
    EndChainsTo l.lows l.earliers l.heads l.c
