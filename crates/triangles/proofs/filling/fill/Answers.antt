-- `filling::fill` meets its contract: a lent list is too short, or both are filled.
use mathlib.Core.Path.{sym, ◌∙◌}
use native.Mathlib.Omega.{arith}
use Rattle.std.proofs.lemmas.Result.{err_from_is_err_and}
use Rattle.paper.specs.Mesh.{of_lists}
use Rattle.mesh.proofs.Verdicts.{passed}
use Rattle.triangles.proofs.Asked.{of_levelled, named_in, corners_less}
use Rattle.triangles.proofs.filling.Laws.{room_as, roomy, filled_refused, filled}
use Rattle.triangles.proofs.runs.Laws.{points_laws}
use Rattle.triangles.proofs.filling.fill.Goals as goal

pub fill_lowest-requires : goal.fill_lowest-requires
fill_lowest-requires c =
    let M = of_lists c.args.lists in
    (named_in M c.requires.mesh, corners_less M c.requires.mesh)

pub returns-in_err-check_room : goal.returns-in_err-check_room
returns-in_err-check_room c =
    let M = of_lists c.args.lists in
    let o = of_levelled M c.requires.mesh c.fill_lowest.ensures in
    let p = err_from_is_err_and c.from_residual.result c.from_residual.ensures.1 in
    rw (p.1, p.2)
    (filled_refused M c.args.levels.now c.args.first c.args.count _ _ _
    (c.in_err-check_room.ensures ∙ room_as M c.args.levels.now c.args.first c.args.count _ _ _ _ (c.count_within-counted.ensures M o)))

pub fill-requires-clause-laws : goal.fill-requires-clause-laws
fill-requires-clause-laws c = points_laws

pub fill-requires-clause-room : goal.fill-requires-clause-room
fill-requires-clause-room c =
    let M = of_lists c.args.lists in
    let v = passed c.check_room.result c.check_room.ensures _ c.in_ok-check_room.was in
    let s = roomy M c.args.levels.now c.args.first c.args.count _ _ _ _ v in
    λ N o. omega (arith, (c.count_within-counted.ensures N o).points_are, s.0)

pub put_indices-requires-clause-room : goal.put_indices-requires-clause-room
put_indices-requires-clause-room c =
    let M = of_lists c.args.lists in
    let v = passed c.check_room.result c.check_room.ensures _ c.in_ok-check_room.was in
    let s = roomy M c.args.levels.now c.args.first c.args.count _ _ _ _ v in
    λ N o. omega (arith, (c.count_within-counted.ensures N o).triangles_are, s.1)

pub returns : goal.returns
returns c =
    let M = of_lists c.args.lists in
    let o = of_levelled M c.requires.mesh c.fill_lowest.ensures in
    let n = c.count_within-counted.ensures M o in
    let v = passed c.check_room.result c.check_room.ensures _ c.in_ok-check_room.was in
    filled M c.args.levels.now c.args.first c.args.count _ _ c.count_within-counted.result _ _
    (sym (room_as M c.args.levels.now c.args.first c.args.count _ _ _ _ n) ∙ v) n c.fill.ensures (c.put_indices.ensures M o)
