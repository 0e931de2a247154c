-- Linking over a table of its own meets its contract: a mesh of few corners fits the short one, and every mesh that is not too large the long one.
use lib.ListN.{length}
use Rattle.paper.specs.Mesh.{most_corners}
use Rattle.mesh.specs.Tables.{small_mesh}
use Rattle.mesh.proofs.Tables.{rows_suffice}
use Rattle.checks.proofs.Laws.{rows_for}
use native.Mathlib.Omega.{arith}
use Rattle.linking.proofs.link.Goals as goal

pub link_over-requires : goal.link_over-requires
link_over-requires c =
    rows_for (length c.args.lists.corners.now) small_mesh (λ h. omega (arith, rows_suffice _ _ c.table_rows.ensures h))

pub link_over-requires-else-table_rows-eq-SMALL_MESH : goal.link_over-requires-else-table_rows-eq-SMALL_MESH
link_over-requires-else-table_rows-eq-SMALL_MESH c = rows_for (length c.args.lists.corners.now) most_corners (λ h. h)
