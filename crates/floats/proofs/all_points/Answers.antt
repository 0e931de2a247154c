-- `floats::all_points` meets its contract: the refusal and the list as it was, or the floats.
use Rattle.std.proofs.lemmas.Result.{err_from_is_err_and}
use Rattle.mesh.proofs.Verdicts.{passed}
use Rattle.floats.proofs.All.{all_refused, all_done}
use Rattle.floats.proofs.all_points.Goals as goal

pub returns-in_err-check_all : goal.returns-in_err-check_all
returns-in_err-check_all c = let p = err_from_is_err_and c.from_residual.result c.from_residual.ensures.1 in rw (p.1, p.2) (all_refused c.args.numbers.now c.args.floats.now c.check_all.ensures c.in_err-check_all.was)

pub returns : goal.returns
returns c = all_done c.args.numbers.now c.args.floats.now (passed _ c.check_all.ensures _ c.in_ok-check_all.was) c.put_nets.ensures

pub put_nets-requires : goal.put_nets-requires
put_nets-requires c = passed _ c.check_all.ensures _ c.in_ok-check_all.was
