-- `border_report::mesh_misses::largest` meets its contract: the tables draw the whole mesh.
use mathlib.Core.Path.{◌∙◌}
use Rattle.paper.specs.Mesh.{of_lists}
use Rattle.refine.proofs.Accepted.{refinable_of}
use Rattle.building.proofs.writing.Laws.{faced_of}
use Rattle.border_report.proofs.mesh_misses.Laws.{ones_named, drawn_all, largest_is}
use Rattle.border_report.proofs.mesh_misses.largest.Goals as goal

pub fill_points-requires : goal.fill_points-requires
fill_points-requires c =
    let M = of_lists c.args.lists in
    record { mesh = refinable_of M c.requires.mesh; table = c.requires.table; marked = ones_named M c.requires.mesh; points = c.requires.points }

pub largest-requires : goal.largest-requires
largest-requires c =
    let M = of_lists c.args.lists in
    let t = c.args.table.now in (
      drawn_all M c.requires.mesh t c.args.points.now _ c.requires.table c.requires.points.0 c.fill_points.ensures,
      faced_of M c.requires.mesh t c.requires.table,
    )

pub returns : goal.returns
returns c j few =
    let M = of_lists c.args.lists in
    c.largest.ensures j few ∙ largest_is M c.requires.mesh _ _ _ c.requires.table c.requires.points.0 c.fill_points.ensures j few
