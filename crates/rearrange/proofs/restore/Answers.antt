-- `restore` meets its contract: 30 and 31 refuse and nothing was written, or the numbers are restored.
use mathlib.Core.Path.{sym, ap, ◌∙◌}
use Rattle.std.proofs.lemmas.Result.{err_from_is_err_and}
use Rattle.paper.specs.Faults.{stated}
use Rattle.mesh.proofs.Verdicts.{passed}
use Rattle.rearrange.proofs.laws.Lengths.{thirds, four_times}
use Rattle.rearrange.proofs.Lengths.{restore_refused, restore_done}
use Rattle.rearrange.proofs.restore.Goals as goal

pub returns-in_err-check_lengths : goal.returns-in_err-check_lengths
returns-in_err-check_lengths c =
    let p = err_from_is_err_and c.from_residual.result c.from_residual.ensures.1 in
    rw (p.1, p.2) (restore_refused c.args.bytes.now c.args.numbers.now _ (ap stated (sym c.in_err-check_lengths.was) ∙ c.check_lengths.ensures))

pub fill_numbers-requires : goal.fill_numbers-requires
fill_numbers-requires c =
    let e = passed c.check_lengths.result c.check_lengths.ensures _ c.in_ok-check_lengths.was in
    (thirds _ _ e, four_times _ _ e)

pub returns : goal.returns
returns c =
    let e = passed c.check_lengths.result c.check_lengths.ensures _ c.in_ok-check_lengths.was in
    restore_done c.args.bytes.now c.args.numbers.now _ e c.fill_numbers.ensures
