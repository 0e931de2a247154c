-- `building::writing::write_corners` meets its contract: the corners below `k` of the range are written, on all three axes.
use mathlib.Core.Path.{◌≡◌}
use Prim.Native.Nat.{◌-◌, ◌≤◌}
use lib.ListN.{length}
use Rattle.net.specs.Drawn.{drawn}
use Rattle.net.specs.stencil.Taken.{Quiet}
use Rattle.building.specs.writing.Written.{NetsWritten}
use Rattle.building.proofs.writing.write_corners.Given as goal

abbrev pub invariant-loop-k : goal.invariant-loop-k
invariant-loop-k l =
    (l.k ≤ l.count) × (length l.out ≡ length l.initial.out) × NetsWritten (drawn l.n l.table l.points) l.first l.k l.out × (length l.stencil ≡ 128) × (length l.lanes ≡ 164) × Quiet l.stencil

abbrev pub decreases-loop-k : goal.decreases-loop-k
decreases-loop-k l = l.count - l.k
