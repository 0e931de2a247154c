-- `mahunopi::mahunopi_sample` meets its contract: it tells what `sampling::sample` answers.
use Rattle.mahunopi.proofs.Laws.{called}
use Rattle.mahunopi.proofs.mahunopi_sample.Goals as goal

pub returns : goal.returns
returns c = called _ _ _ _ _ _ _ _ c.sample.ensures c.tell.ensures
