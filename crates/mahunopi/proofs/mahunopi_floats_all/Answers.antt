-- `mahunopi::mahunopi_floats_all` meets its contract: it tells what `floats::all_points` answers.
use Rattle.mahunopi.proofs.Laws.{floats_all_call}
use Rattle.mahunopi.proofs.mahunopi_floats_all.Goals as goal

pub returns : goal.returns
returns c = floats_all_call _ _ _ _ _ _ _ c.all_points.ensures c.tell.ensures
