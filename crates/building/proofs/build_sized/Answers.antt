-- `building::build_sized` meets its contract: the tables have as many rows as the mesh has corners, where these are not too many.
use Prim.Native.Nat.{◌≤◌}
use lib.ListN.{length}
use Rattle.paper.specs.Mesh.{most_corners}
use Rattle.mesh.specs.Tables.{small_mesh, large_mesh}
use Rattle.mesh.proofs.Tables.{rows_suffice}
use Rattle.checks.proofs.Laws.{rows_for}
use Rattle.building.proofs.Laws.{point_room}
use native.Mathlib.Omega.{arith}
use Rattle.building.proofs.build_sized.Goals as goal
use Rattle.building.proofs.build_sized.Goals.{After-table_rows-rows, Start}

pub build_over-requires : goal.build_over-requires
build_over-requires c =
    let n = length c.args.lists.corners.now in
    let fits : n ≤ most_corners → n ≤ small_mesh = λ h. omega (arith, rows_suffice _ _ c.table_rows-rows.ensures h) in
    record { table = rows_for n small_mesh fits; points = point_room n small_mesh fits }

pub build_over-requires-then-rows-eq-LARGE_MESH : goal.build_over-requires-then-rows-eq-LARGE_MESH
build_over-requires-then-rows-eq-LARGE_MESH c =
    let n = length c.args.lists.corners.now in
    let fits : n ≤ most_corners → n ≤ large_mesh = λ h. omega (arith, rows_suffice _ _ c.table_rows-rows.ensures h) in
    record { table = rows_for n large_mesh fits; points = point_room n large_mesh fits }

pub build_over-requires-else-rows-eq-LARGE_MESH : goal.build_over-requires-else-rows-eq-LARGE_MESH
build_over-requires-else-rows-eq-LARGE_MESH c =
    let n = length c.args.lists.corners.now in
    record { table = rows_for n most_corners (λ h. h); points = point_room n most_corners (λ h. h) }
