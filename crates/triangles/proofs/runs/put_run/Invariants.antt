-- `put_run` meets its contract: the numbers of the corners before stand there.
use mathlib.Core.Path.{◌≡◌}
use Prim.Native.Nat.{◌+◌, ◌-◌, ◌*◌}
use Rattle.paper.specs.Mesh.{Mesh}
use Rattle.paper.specs.Calls.{nets}
use Rattle.numbering.specs.Meshed.{OfTables}
use Rattle.strips.specs.PointRows.{Stands}
use Rattle.triangles.proofs.runs.put_run.Given as goal

abbrev pub invariant-loop-c : goal.invariant-loop-c
invariant-loop-c g l =
    ((M : Mesh) → OfTables M l.tables → l.to ≡ l.at + 3 * (g.N.Own.before M l.tables.levels.now (l.first + l.c) - g.N.Own.before M l.tables.levels.now l.first))
    × ((M : Mesh) → OfTables M l.tables → l.numbers ≡ nets M l.first l.count
    → Stands (g.N.Own.number M l.tables.levels.now) (g.N.Own.before M l.tables.levels.now l.first) (g.N.Own.before M l.tables.levels.now (l.first + l.c)) l.at l.to l.initial.out l.out)
