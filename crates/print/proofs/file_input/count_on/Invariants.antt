-- Each turn reads at least a byte, and there are turns only up to one byte past the length expected.
use Prim.Native.Nat.{◌-◌, ◌<◌, ◌≤◌}
use lib.ListN.{length}
use Rattle.print.proofs.file_input.count_on.Given as goal

abbrev pub invariant-loop-counted : goal.invariant-loop-counted
invariant-loop-counted g l = (length l.held ≤ l.counted) × (length l.held < l.counted → l.counted ≤ l.most)

abbrev pub decreases-loop-counted : goal.decreases-loop-counted
decreases-loop-counted g l = l.most - l.counted
