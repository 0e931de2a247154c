-- `refine::fill_points` meets its contract: there are no more sums than corners, and for these the tables are long enough.
use Prim.Native.Nat.{ℕ, ◌*◌, ◌≤◌}
use native.Mathlib.Omega.{arith}
use lib.IntN.{ℤ, pos}
use lib.ListN.{length, length-replicate}
use Rattle.paper.specs.Mesh.{most_corners, most_faces}
use Rattle.mesh.specs.Tables.{small_mesh}
use Rattle.mesh.proofs.Tables.{rows_suffice}
use Rattle.face_sums.specs.Sums.{sum_row}
use Rattle.face_sums.proofs.Laws.{sums_fit}
use Rattle.refine.proofs.fill_points.Goals as goal
use Rattle.refine.proofs.fill_points.Goals.{After-table_rows, Start}

module _ (s : Start) where
  few : length s.args.lists.corners.now ≤ most_corners
  few = omega (arith, s.requires.mesh.faces.few, s.requires.mesh.sums)

  fits : sum_row * length s.args.lists.sides.now ≤ length s.args.lists.corners.now
  fits = omega (arith, sums_fit s.args.lists.sides.now s.requires.mesh.faces, s.requires.mesh.sums)

pub fill_over-requires : goal.fill_over-requires
fill_over-requires c =
    let s = (goal.at.fill_over-requires c).Start in
    let rows = rows_suffice _ _ c.table_rows.ensures (few s) in
    record {
      mesh = s.requires.mesh;
      table = s.requires.table;
      marked = s.requires.marked;
      room = (omega (arith, fits s, rows, length-replicate {A = ℕ} small_mesh 0), omega (arith, fits s, rows, length-replicate {A = ℤ} small_mesh (pos 0)));
      points = s.requires.points;
    }

pub fill_over-requires-else-table_rows-eq-SMALL_MESH : goal.fill_over-requires-else-table_rows-eq-SMALL_MESH
fill_over-requires-else-table_rows-eq-SMALL_MESH c =
    let s = (goal.at.fill_over-requires-else-table_rows-eq-SMALL_MESH c).Start in
    record {
      mesh = s.requires.mesh;
      table = s.requires.table;
      marked = s.requires.marked;
      room = (omega (arith, fits s, few s, length-replicate {A = ℕ} most_faces 0), omega (arith, fits s, few s, length-replicate {A = ℤ} most_corners (pos 0)));
      points = s.requires.points;
    }
