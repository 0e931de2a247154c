-- `check_all` meets its contract.
use mathlib.Core.Path.{refl, sym}
use Rattle.std.proofs.lemmas.Result.{err_from_is_err_and}
use Rattle.mesh.proofs.Verdicts.{or_else_fault, passed}
use Rattle.paper.specs.Mesh.{of_lists}
use Rattle.triangles.proofs.Asked.{corners_most, all_refused, all_rest}
use Rattle.triangles.proofs.check_all.Goals as goal

pub returns-in_err-check_within : goal.returns-in_err-check_within
returns-in_err-check_within c =
    let M = of_lists c.args.lists in
    let p = err_from_is_err_and c.from_residual.result c.from_residual.ensures.1 in
    rw (p.1, p.2)
    (all_refused M c.args.links.now c.args.first c.args.count c.args.levels.now _ _ (sym (or_else_fault _ _ _ (sym c.in_err-check_within.ensures.answers))))

pub check_rest-requires : goal.check_rest-requires
check_rest-requires c =
    let a = c.check_within in let M = of_lists c.args.lists in
    let ok = passed a.result a.ensures.answers _ c.in_ok-check_within.was in
    (corners_most M ok, (a.ensures.tabled ok).long)

pub returns : goal.returns
returns c =
    let a = c.check_within in let M = of_lists c.args.lists in
    let ok = passed a.result a.ensures.answers _ c.in_ok-check_within.was in
    all_rest M c.args.links.now c.args.first c.args.count c.args.levels.now c.check_rest.result _ ok (a.ensures.tabled ok)
    (c.check_rest.ensures M refl (a.ensures.tabled ok).links)
