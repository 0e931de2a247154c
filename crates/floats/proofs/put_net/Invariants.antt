-- `floats::put_net` meets its contract: before each turn the floats of the points before are written.
use mathlib.Core.Path.{◌≡◌}
use lib.ListN.{length}
use Rattle.floats.proofs.All.{NetTo}
use Rattle.floats.proofs.put_net.Given as goal

abbrev pub invariant-loop-point : goal.invariant-loop-point
invariant-loop-point l = (length l.floats ≡ length l.initial.floats) × NetTo l.net l.at l.point l.initial.floats l.floats
