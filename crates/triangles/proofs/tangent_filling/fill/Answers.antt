-- `tangent_filling::fill` meets its contract: the lent list is too short, or it is filled.
use native.Mathlib.Omega.{arith}
use borrow.Author.Rules.{rules}
use Rattle.paper.specs.Mesh.{of_lists}
use Rattle.triangles.proofs.Asked.{of_levelled, named_in, corners_less}
use Rattle.triangles.proofs.tangent_filling.Laws.{pairs_short, pairs_done}
use Rattle.triangles.proofs.runs.Laws.{tangents_laws}
use Rattle.triangles.proofs.tangent_filling.fill.Goals as goal

pub fill_lowest-requires : goal.fill_lowest-requires
fill_lowest-requires c =
    let M = of_lists c.args.lists in
    (named_in M c.requires.mesh, corners_less M c.requires.mesh)

pub points_in-points-requires : goal.points_in-points-requires
points_in-points-requires c =
    let M = of_lists c.args.lists in
    let few = corners_less M c.requires.mesh in
    (record { mesh = M; is = of_levelled M c.requires.mesh c.fill_lowest.ensures }, c.requires.range.1, omega (arith, c.requires.mesh.many, few))

pub overflow_mul-needed : goal.overflow_mul-needed
overflow_mul-needed c =
    let M = of_lists c.args.lists in
    let few = corners_less M c.requires.mesh in
    omega (arith, c.points_in-points.ensures.1, c.requires.range.1, c.requires.mesh.many, few)

pub fill-requires-clause-laws : goal.fill-requires-clause-laws
fill-requires-clause-laws c = tangents_laws

pub returns-then-out-needed : goal.returns-then-out-needed
returns-then-out-needed c =
    let M = of_lists c.args.lists in
    let o = of_levelled M c.requires.mesh c.fill_lowest.ensures in
    pairs_short M c.args.levels.now c.args.first c.args.count c.args.out.now c.points_in-points.result (c.points_in-points.ensures.0 M o) (search rules)

pub returns : goal.returns
returns c =
    let M = of_lists c.args.lists in
    let o = of_levelled M c.requires.mesh c.fill_lowest.ensures in
    pairs_done M c.args.levels.now c.args.first c.args.count c.args.out.now c.points_in-points.result (c.points_in-points.ensures.0 M o) (omega arith) _
    c.fill.ensures
