-- `border_report::with_mesh` meets its contract: a small mesh fits the short tables, and every mesh that is not too large the long ones.
use Prim.Native.Nat.{◌*◌, ◌≤◌}
use lib.ListN.{length}
use Rattle.paper.specs.Mesh.{most_corners}
use Rattle.mesh.specs.Tables.{small_mesh}
use Rattle.mesh.proofs.Tables.{rows_suffice}
use Rattle.surface.specs.Points.{point_row}
use Rattle.refine.proofs.Points.{small_zeros}
use Rattle.checks.proofs.Laws.{rows_for}
use Rattle.border_report.proofs.Laws.{point_room}
use native.Mathlib.Omega.{arith}
use Rattle.border_report.proofs.with_mesh.Goals as goal

pub over-requires : goal.over-requires
over-requires c =
    let n = length c.args.lists.corners.now in
    let fits : n ≤ most_corners → n ≤ small_mesh = λ h. omega (arith, rows_suffice _ _ c.table_rows.ensures h) in
    record { page = c.requires; table = rows_for n small_mesh fits; points = (point_room n small_mesh fits, small_zeros (point_row * small_mesh)) }

pub over-requires-2 : goal.over-requires-2
over-requires-2 c =
    let n = length c.args.lists.corners.now in
    record { page = c.requires; table = rows_for n most_corners (λ h. h); points = (point_room n most_corners (λ h. h), small_zeros (point_row * most_corners)) }
