-- After as many turns as the index says no entry is above it, and the table is the tally of that many values by their numbers.
use mathlib.Core.Path.{◌≡◌}
use mathlib.Core.List.{map}
use Prim.Native.Nat.{ℕ, ◌≤◌}
use lib.ListN.{length, get_or}
use Rattle.surveying.specs.Tally.{Numbers, tally_to}
use Rattle.surveying.proofs.counting.tally.Given as goal

abbrev pub invariant-loop-x : goal.invariant-loop-x
invariant-loop-x g l =
    record {
      small : (m : ℕ) → get_or l.table m 0 ≤ l.x-index;
      tallied : (number : g.row.T.Denot → ℕ) → Numbers g.T.Into.converts number → l.table ≡ tally_to (map number l.values) l.x-index (length l.initial.table);
    }
