-- `triangles_over` meets its contract: one of the checks refuses, or the rest is done.
use Rattle.std.proofs.lemmas.Result.{err_from_is_err_and}
use Rattle.paper.specs.Mesh.{of_lists}
use Rattle.triangles.proofs.Asked.{checked, checked_levelled, range_in}
use Rattle.triangles.proofs.filling.Laws.{range_some, triangles_refused, triangulated}
use Rattle.triangles.proofs.triangles_over.Goals as goal

pub returns-in_err-check_all : goal.returns-in_err-check_all
returns-in_err-check_all c =
    let M = of_lists c.args.lists in
    let p = err_from_is_err_and c.from_residual.result c.from_residual.ensures.1 in
    rw (p.1, p.2) (triangles_refused M c.args.links.now c.args.levels.now c.args.first c.args.count _ _ _ c.in_err-check_all.ensures.answers)

pub fill-requires-clause-mesh : goal.fill-requires-clause-mesh
fill-requires-clause-mesh c =
    checked_levelled (of_lists c.args.lists) c.args.links.now
    c.args.first c.args.count c.args.levels.now _ _ c.check_all.ensures _ c.in_ok-check_all.was

pub fill-requires-clause-range : goal.fill-requires-clause-range
fill-requires-clause-range c =
    let M = of_lists c.args.lists in
    let s = checked M c.args.links.now c.args.first c.args.count c.args.levels.now _ _ c.check_all.ensures _ c.in_ok-check_all.was in (
      range_some M c.args.links.now c.args.levels.now c.args.first c.args.count s,
      range_in M c.args.links.now c.args.first c.args.count c.args.levels.now s,
    )

pub returns : goal.returns
returns c =
    let M = of_lists c.args.lists in
    let s = checked M c.args.links.now c.args.first c.args.count c.args.levels.now _ _ c.check_all.ensures _ c.in_ok-check_all.was in
    triangulated M c.args.links.now c.args.levels.now c.args.first c.args.count _ _ _ _ _ s c.fill.ensures
