-- The check over a lent table meets its contract: the table of vertices has a row for each, where these are not too many.
use Rattle.paper.specs.Mesh.{Mesh, most_vertices, of_lists}
use Rattle.mesh.specs.Tables.{small_mesh}
use Rattle.mesh.proofs.Tables.{rows_suffice}
use Rattle.checks.proofs.Laws.{room}
use native.Mathlib.Omega.{arith}
use Rattle.checks.proofs.check_within.Goals as goal
use Rattle.checks.proofs.check_within.Goals.{Start}

-- the mesh of a call
abbrev mesh : Start → Mesh
mesh s = of_lists s.args.lists

pub check_over-requires : goal.check_over-requires
check_over-requires c =
    let s : Start = (goal.at.check_over-requires c).Start in
    room (mesh s) s.args.table.now small_mesh s.requires (λ h. omega (arith, rows_suffice _ _ c.table_rows.ensures (omega arith)))

pub check_over-requires-else-table_rows-eq-SMALL_MESH : goal.check_over-requires-else-table_rows-eq-SMALL_MESH
check_over-requires-else-table_rows-eq-SMALL_MESH c = let s : Start = (goal.at.check_over-requires-else-table_rows-eq-SMALL_MESH c).Start in room (mesh s) s.args.table.now most_vertices s.requires (λ h. h)
