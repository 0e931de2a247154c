-- 25 and 26 decide, or 4 to 13 do.
use Rattle.std.proofs.lemmas.Result.{err_from_is_err_and}
use Rattle.off.proofs.checking.Parts.{checked_words, checked_lists, checked_all}
use Rattle.off.proofs.checking.read_checked.Goals as goal

pub returns-in_err-lengths : goal.returns-in_err-lengths
returns-in_err-lengths c =
    let p = err_from_is_err_and c.from_residual.result c.from_residual.ensures.1 in
    rw (p.1, p.2) (checked_words _ _ _ _ c.in_err-lengths.field-0.0 c.in_err-lengths.ensures)

pub returns-in_err-check : goal.returns-in_err-check
returns-in_err-check c =
    let p = err_from_is_err_and c.from_residual-in_err-check.result c.from_residual-in_err-check.ensures.1 in
    rw (p.1, p.2)
    (checked_lists _ _ _ _ c.in_ok-lengths.lengths c.in_ok-lengths.ensures c.in_err-check.field-0.0 c.in_err-check.ensures)

pub returns : goal.returns
returns c = checked_all _ _ _ _ c.in_ok-lengths.lengths c.in_ok-lengths.ensures c.in_ok-check.ensures
