-- `count` meets its contract: the checks, then the counts.
use Rattle.std.proofs.lemmas.Result.{err_from_is_err_and}
use Rattle.paper.specs.Mesh.{of_lists}
use Rattle.triangles.proofs.Asked.{checked, checked_levelled, range_in, of_levelled, named_in, corners_less, counted_refused, counted}
use Rattle.triangles.proofs.count.Goals as goal

pub fill_lowest-requires : goal.fill_lowest-requires
fill_lowest-requires c =
    let M = of_lists c.args.lists in
    let l = checked_levelled M c.args.links.now c.args.first c.args.count c.args.levels.now _ _ c.check_all.ensures _ c.in_ok-check_all.was in
    (named_in M l, corners_less M l)

pub count_within-requires : goal.count_within-requires
count_within-requires c =
    let M = of_lists c.args.lists in
    let s = checked M c.args.links.now c.args.first c.args.count c.args.levels.now _ _ c.check_all.ensures _ c.in_ok-check_all.was in
    let l = checked_levelled M c.args.links.now c.args.first c.args.count c.args.levels.now _ _ c.check_all.ensures _ c.in_ok-check_all.was in (
      record { mesh = M; is = of_levelled M l c.fill_lowest.ensures },
      range_in M c.args.links.now c.args.first c.args.count c.args.levels.now s,
    )

pub returns-in_err-check_all : goal.returns-in_err-check_all
returns-in_err-check_all c =
    let M = of_lists c.args.lists in
    let p = err_from_is_err_and c.from_residual.result c.from_residual.ensures.1 in
    rw (p.1, p.2) (counted_refused M c.args.links.now c.args.levels.now c.args.first c.args.count _ c.in_err-check_all.ensures.answers)

pub returns : goal.returns
returns c =
    let M = of_lists c.args.lists in
    let s = checked M c.args.links.now c.args.first c.args.count c.args.levels.now _ _ c.check_all.ensures _ c.in_ok-check_all.was in
    let l = checked_levelled M c.args.links.now c.args.first c.args.count c.args.levels.now _ _ c.check_all.ensures _ c.in_ok-check_all.was in
    counted M c.args.links.now c.args.levels.now c.args.first c.args.count c.count_within.result s (c.count_within.ensures M (of_levelled M l c.fill_lowest.ensures))
