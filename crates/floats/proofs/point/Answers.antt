-- `floats::point` meets its contract: the checks' refusal, or the floats of the three differences.
use lib.Dec.{lit<}
use Rattle.std.proofs.lemmas.Result.{err_from_is_err_and}
use Rattle.mesh.proofs.Verdicts.{passed}
use Rattle.floats.proofs.Laws.{point_refused, point_split}
use Rattle.floats.proofs.point.Goals as goal

pub returns-in_err-check : goal.returns-in_err-check
returns-in_err-check c = let p = err_from_is_err_and c.from_residual.result c.from_residual.ensures.1 in rw (p.1, p.2) (point_refused _ _ c.check.ensures c.in_err-check.was)

pub difference-x-requires : goal.difference-x-requires
difference-x-requires c = (passed _ c.check.ensures _ c.in_ok-check.was, lit< tt)

pub difference-y-requires : goal.difference-y-requires
difference-y-requires c = (passed _ c.check.ensures _ c.in_ok-check.was, lit< tt)

pub difference-z-requires : goal.difference-z-requires
difference-z-requires c = (passed _ c.check.ensures _ c.in_ok-check.was, lit< tt)

pub returns : goal.returns
returns c =
    point_split _ _ c.check.ensures c.in_ok-check.was c.difference-x.ensures.1 c.difference-y.ensures.1 c.difference-z.ensures.1
    c.difference-x.ensures.0 c.difference-y.ensures.0 c.difference-z.ensures.0 c.split.ensures
