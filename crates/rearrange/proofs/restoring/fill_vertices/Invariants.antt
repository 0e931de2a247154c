-- After v turns the numbers of the first v vertices are restored, and x, y, z are the sums of the last of them.
use mathlib.Core.Path.{◌≡◌}
use Prim.Native.Nat.{◌*◌}
use lib.ListN.{length}
use Rattle.mesh.proofs.Fills.{Filled}
use Rattle.paper.specs.Archive.{restored_at}
use Rattle.rearrange.specs.restoring.Sums.{sum_before}
use Rattle.rearrange.proofs.restoring.fill_vertices.Given as goal

abbrev pub invariant-loop-v : goal.invariant-loop-v
invariant-loop-v l =
    Filled (restored_at l.bytes (length l.initial.numbers)) l.initial.numbers (3 * l.v) l.numbers
    × (l.x ≡ sum_before l.bytes (length l.initial.numbers) l.v 0) × (l.y ≡ sum_before l.bytes (length l.initial.numbers) l.v 1) × (l.z ≡ sum_before l.bytes (length l.initial.numbers) l.v 2)
