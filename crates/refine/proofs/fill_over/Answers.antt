-- `refine::fill_over` meets its contract: the sums of the faces that are needed stand in the table when the loop over corners takes them.
use native.Mathlib.Omega.{arith}
use Rattle.paper.specs.Mesh.{Mesh, of_lists}
use Rattle.refine.proofs.Points.{put_value}
use Rattle.refine.proofs.Laws.{covered_of, fits_of, table_point_lem}
use Rattle.refine.proofs.fill_over.Goals as goal
use Rattle.refine.proofs.fill_over.Goals.{After-fill_faces, After-fill_sums, Start}

abbrev mesh : Start → Mesh
mesh s = of_lists s.args.lists

pub fill_sums-requires : goal.fill_sums-requires
fill_sums-requires c =
    let R = c.requires.mesh in record { mesh = (R.faces, R.sums, R.placed); marked = c.requires.marked; room = c.requires.room }

pub fill_faces-requires : goal.fill_faces-requires
fill_faces-requires c =
    let s = (goal.at.fill_faces-requires c).Start in
    let k = c.fill_sums in
    let room = s.requires.room in record {
      mesh = s.requires.mesh;
      table = s.requires.table;
      marked = (s.requires.marked, covered_of (mesh s) s.requires.mesh _ _ _ k.ensures);
      sums = fits_of (mesh s) s.requires.mesh _ _ _ k.ensures (omega (arith, room.0)) (omega (arith, room.1));
      points = s.requires.points;
    }

pub returns : goal.returns
returns c =
    let s = (goal.at.returns c).Start in
    put_value (table_point_lem (mesh s) s.requires.mesh _ _ _ c.fill_sums.ensures) c.fill_faces.ensures
