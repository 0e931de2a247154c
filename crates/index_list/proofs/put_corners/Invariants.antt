-- `put_corners` meets its contract: the parts before stand there.
use Rattle.paper.specs.Mesh.{Mesh}
use Rattle.paper.specs.Triangles.{triangles_before}
use Rattle.numbering.specs.Meshed.{PointsStarted}
use Rattle.index_list.specs.Rows.{TrianglesPut}
use Rattle.index_list.proofs.put_corners.Given as goal

abbrev pub invariant-loop-c : goal.invariant-loop-c
invariant-loop-c l =
    (M : Mesh) → PointsStarted M l.tables.corners.now l.tables.low.now l.tables.table.now l.tables.levels.now l.starts
    → TrianglesPut M l.tables.levels.now (triangles_before M l.tables.levels.now l.first) (triangles_before M l.tables.levels.now l.c) 0 l.to l.initial.out l.out
