-- `triangles_in` meets its contract: a running sum.
use mathlib.Core.Path.{◌≡◌}
use Prim.Native.Nat.{◌+◌, ◌-◌, ◌*◌, ◌≤◌}
use Rattle.paper.specs.Mesh.{Mesh}
use Rattle.paper.specs.Triangles.{triangles_before}
use Rattle.numbering.specs.Meshed.{Of}
use Rattle.numbering.proofs.triangles_in.Given as goal

abbrev pub invariant-loop-c : goal.invariant-loop-c
invariant-loop-c l =
    (l.sum ≤ 1024 * (l.c - l.first))
    × ((M : Mesh) → Of M l.tables.corners.now l.tables.low.now l.tables.table.now l.tables.levels.now → triangles_before M l.tables.levels.now l.c ≡ triangles_before M l.tables.levels.now l.first + l.sum)
