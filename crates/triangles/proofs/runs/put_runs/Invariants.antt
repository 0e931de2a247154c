-- `put_runs` meets its contract: the numbers of the corners before stand there.
use mathlib.Core.Path.{◌≡◌}
use Prim.Native.Nat.{◌+◌, ◌-◌, ◌*◌, ◌≤◌}
use Rattle.paper.specs.Mesh.{Mesh}
use Rattle.building.specs.writing.Written.{NetsDrawn}
use Rattle.numbering.specs.Meshed.{OfTables}
use Rattle.strips.specs.PointRows.{Stands}
use Rattle.triangles.proofs.runs.put_runs.Given as goal

abbrev pub invariant-loop-c : goal.invariant-loop-c
invariant-loop-c g l =
    (l.c ≤ l.count)
    × ((M : Mesh) → OfTables M l.tables → l.to ≡ 3 * (g.N.Own.before M l.tables.levels.now (l.first + l.c) - g.N.Own.before M l.tables.levels.now l.first))
    × ((M : Mesh) → OfTables M l.tables → NetsDrawn M l.tables.table.now l.refined l.first l.count
    → Stands (g.N.Own.number M l.tables.levels.now) (g.N.Own.before M l.tables.levels.now l.first) (g.N.Own.before M l.tables.levels.now (l.first + l.c)) 0 l.to l.initial.out l.out)

abbrev pub decreases-loop-c : goal.decreases-loop-c
decreases-loop-c g l = l.count - l.c
