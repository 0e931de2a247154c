-- `fill_starts` meets its contract: a running sum, stored at each corner.
use mathlib.Core.Path.{◌≡◌}
use Prim.Native.Nat.{ℕ, ◌*◌, ◌<◌, ◌≤◌}
use lib.ListN.{get_or}
use Rattle.paper.specs.Mesh.{Mesh}
use Rattle.paper.specs.Triangles.{points_before}
use Rattle.numbering.specs.Meshed.{Of}
use Rattle.index_list.proofs.fill_starts.Given as goal

abbrev pub invariant-loop-c : goal.invariant-loop-c
invariant-loop-c l =
    (l.sum ≤ 600 * l.c)
    × ((M : Mesh) → Of M l.tables.corners.now l.tables.low.now l.tables.table.now l.tables.levels.now
    → (points_before M l.tables.levels.now l.c ≡ l.sum) × ((e : ℕ) → e < l.c → get_or l.starts e 0 ≡ points_before M l.tables.levels.now e))
