-- `net::lanes::fill_lanes` meets its contract. The invariant: the first k lanes have their points.
use mathlib.Core.Path.{◌≡◌}
use Prim.Native.Nat.{ℕ, ◌<◌}
use lib.ListN.{length}
use Rattle.net.specs.lanes.Lanes.{LaneFilled}
use Rattle.net.proofs.lanes.fill_lanes.Given as goal

abbrev pub invariant-loop-k : goal.invariant-loop-k
invariant-loop-k l = (length l.lanes ≡ 164) × ((j : ℕ) → j < l.k → LaneFilled l.stencil j l.rings l.lanes)
