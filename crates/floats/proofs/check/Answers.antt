-- Checks 18 to 20 meet their contract: each stops the chain with its fault or is passed.
use mathlib.Core.Path.{sym, ◌∙◌}
use Rattle.paper.specs.Floats.{fault18, fault20}
use Rattle.std.proofs.lemmas.Result.{err_from_is_err_and}
use Rattle.mesh.proofs.Verdicts.{stop, passed, past}
use Rattle.floats.proofs.Laws.{chain}
use Rattle.floats.proofs.check.Goals as goal

pub returns-in_err-refused_if : goal.returns-in_err-refused_if
unfolding fault18
returns-in_err-refused_if c =
    let p = err_from_is_err_and c.from_residual.result c.from_residual.ensures.1 in
    rw (p.1, p.2) (stop _ c.refused_if.ensures _ c.in_err-refused_if.was _ ∙ sym (chain _ _))

pub returns-in_err-check_numbers : goal.returns-in_err-check_numbers
unfolding fault18
returns-in_err-check_numbers c =
    let p = err_from_is_err_and c.from_residual-in_err-check_numbers.result c.from_residual-in_err-check_numbers.ensures.1 in
    rw (p.1, p.2)
    (past (passed _ c.refused_if.ensures _ c.in_ok-refused_if.was) _ (stop _ c.check_numbers.ensures _ c.in_err-check_numbers.was _) ∙ sym (chain _ _))

pub returns : goal.returns
unfolding fault18 fault20
returns c =
    past (passed _ c.refused_if.ensures _ c.in_ok-refused_if.was) _
    (past (passed _ c.check_numbers.ensures _ c.in_ok-check_numbers.was) _ c.refused_if-2.ensures)
    ∙ sym (chain _ _)
