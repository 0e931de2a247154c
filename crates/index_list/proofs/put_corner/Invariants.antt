-- `put_corner` meets its contract: the parts before stand there.
use Rattle.paper.specs.Mesh.{Mesh}
use Rattle.numbering.specs.Meshed.{PointsStarted}
use Rattle.index_list.specs.Rows.{side_start, TrianglesPut}
use Rattle.index_list.proofs.put_corner.Given as goal

abbrev pub invariant-loop-side : goal.invariant-loop-side
invariant-loop-side l =
    (M : Mesh) → PointsStarted M l.tables.corners.now l.tables.low.now l.tables.table.now l.tables.levels.now l.starts
    → TrianglesPut M l.tables.levels.now (side_start M l.tables.levels.now l.c 0) (side_start M l.tables.levels.now l.c l.side) l.at l.to l.initial.out l.out
