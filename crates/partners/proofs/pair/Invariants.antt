-- `pair` meets its contract: the corners below `c` have their partners, and no corner without one shares an edge with them.
use mathlib.Core.Path.{◌≡◌}
use mathlib.Core.List.{List}
use Prim.Native.Nat.{ℕ}
use lib.ListN.{length}
use Rattle.partners.specs.Keys.{KeysTo}
use Rattle.partners.proofs.Laws.{Pairing}
use Rattle.partners.proofs.pair.Given as goal

abbrev pub invariant-loop-c : goal.invariant-loop-c
invariant-loop-c l =
    (sides corners : List ℕ) → length l.lows ≡ length corners → KeysTo sides corners l.lows l.highs (length corners) → Pairing sides corners l.partners l.c
