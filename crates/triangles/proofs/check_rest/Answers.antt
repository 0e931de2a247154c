-- `check_rest` meets its contract: check after check.
use mathlib.Core.Path.{◌∙◌, sym}
use Rattle.std.proofs.lemmas.Result.{err_from_is_err_and}
use Rattle.mesh.proofs.Verdicts.{or_else_fault, passed, past}
use Rattle.triangles.proofs.Asked.{range_as, levels_as}
use Rattle.triangles.proofs.check_rest.Goals as goal

pub returns-in_err-check_links : goal.returns-in_err-check_links
returns-in_err-check_links c =
    let p = err_from_is_err_and c.from_residual.result c.from_residual.ensures.1 in
    rw (p.1, p.2) (λ M e t. sym (or_else_fault _ _ _ (sym (c.in_err-check_links.ensures M e t))))

pub returns-in_err-check_range : goal.returns-in_err-check_range
returns-in_err-check_range c =
    let p = err_from_is_err_and c.from_residual-in_err-check_range.result c.from_residual-in_err-check_range.ensures.1 in
    rw (p.1, p.2)
    (λ M e t. past (passed c.check_links.result (c.check_links.ensures M e t) _ c.in_ok-check_links.was) _
    (sym (or_else_fault _ _ _ (sym (c.in_err-check_range.ensures ∙ range_as M c.args.corners c.args.first c.args.count e)))))

pub returns : goal.returns
returns c =
    λ M e t. past (passed c.check_links.result (c.check_links.ensures M e t) _ c.in_ok-check_links.was) _
    (past (passed c.check_range.result (c.check_range.ensures ∙ range_as M c.args.corners c.args.first c.args.count e) _ c.in_ok-check_range.was) _
    (c.check_levels.ensures ∙ levels_as M c.args.corners c.args.levels.now e))
