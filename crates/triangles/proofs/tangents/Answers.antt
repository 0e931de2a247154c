-- `tangents` meets its contract: the table has as many rows as the mesh has corners, where these are not too many.
use lib.ListN.{length}
use Rattle.paper.specs.Mesh.{most_corners}
use Rattle.mesh.proofs.Tables.{rows_suffice}
use Rattle.mesh.specs.Tables.{small_mesh, large_mesh}
use Rattle.checks.proofs.Laws.{rows_for}
use native.Mathlib.Omega.{arith}
use Rattle.triangles.proofs.tangents.Goals as goal

pub tangents_over-requires : goal.tangents_over-requires
tangents_over-requires c =
    rows_for (length c.args.lists.corners.now) small_mesh (λ h. omega (arith, rows_suffice _ _ c.table_rows-rows.ensures h))

pub tangents_over-requires-then-rows-eq-LARGE_MESH : goal.tangents_over-requires-then-rows-eq-LARGE_MESH
tangents_over-requires-then-rows-eq-LARGE_MESH c =
    rows_for (length c.args.lists.corners.now) large_mesh (λ h. omega (arith, rows_suffice _ _ c.table_rows-rows.ensures h))

pub tangents_over-requires-else-rows-eq-LARGE_MESH : goal.tangents_over-requires-else-rows-eq-LARGE_MESH
tangents_over-requires-else-rows-eq-LARGE_MESH c = rows_for (length c.args.lists.corners.now) most_corners (λ h. h)
