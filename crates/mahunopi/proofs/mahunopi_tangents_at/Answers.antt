-- `mahunopi::mahunopi_tangents_at` meets its contract: it tells what `sampling::tangents` answers.
use Rattle.mahunopi.proofs.Laws.{called}
use Rattle.mahunopi.proofs.mahunopi_tangents_at.Goals as goal

pub returns : goal.returns
returns c = called _ _ _ _ _ _ _ _ c.tangents.ensures c.tell.ensures
