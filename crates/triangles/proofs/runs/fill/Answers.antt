-- `runs::fill` meets its contract: the table has as many rows as the mesh has corners.
use mathlib.Core.Path.{ap}
use native.Mathlib.Omega.{arith}
use lib.ListN.{length}
use Rattle.paper.specs.Mesh.{most_corners, of_lists}
use Rattle.mesh.proofs.Tables.{rows_suffice}
use Rattle.mesh.specs.Tables.{small_mesh, large_mesh}
use Rattle.building.proofs.Laws.{point_room}
use Rattle.triangles.proofs.Asked.{levelled_of, corners_less}
use Rattle.triangles.proofs.runs.fill.Goals as goal

pub over_refined-requires-clause-refined : goal.over_refined-requires-clause-refined
over_refined-requires-clause-refined g c =
    let M = of_lists c.args.lists in
    let room = point_room (length c.args.lists.corners.now) small_mesh (λ h. omega (arith, rows_suffice _ _ c.table_rows-rows.ensures h)) in
    (room.0 (omega (arith, corners_less M (levelled_of M c.requires.mesh), ap length c.requires.mesh.corners_are)), room.1)

pub over_refined-requires-then-rows-eq-LARGE_MESH-clause-refined : goal.over_refined-requires-then-rows-eq-LARGE_MESH-clause-refined
over_refined-requires-then-rows-eq-LARGE_MESH-clause-refined g c =
    let M = of_lists c.args.lists in
    let room = point_room (length c.args.lists.corners.now) large_mesh (λ h. omega (arith, rows_suffice _ _ c.table_rows-rows.ensures h)) in
    (room.0 (omega (arith, corners_less M (levelled_of M c.requires.mesh), ap length c.requires.mesh.corners_are)), room.1)

pub over_refined-requires-else-rows-eq-LARGE_MESH-clause-refined : goal.over_refined-requires-else-rows-eq-LARGE_MESH-clause-refined
over_refined-requires-else-rows-eq-LARGE_MESH-clause-refined g c =
    let M = of_lists c.args.lists in
    let room = point_room (length c.args.lists.corners.now) most_corners (λ h. h) in
    (room.0 (omega (arith, corners_less M (levelled_of M c.requires.mesh), ap length c.requires.mesh.corners_are)), room.1)
