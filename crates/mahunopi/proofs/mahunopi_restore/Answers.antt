-- `mahunopi::mahunopi_restore` meets its contract: it tells what `rearrange::restore` answers.
use Rattle.mahunopi.proofs.Laws.{called}
use Rattle.mahunopi.proofs.mahunopi_restore.Goals as goal

pub returns : goal.returns
returns c = search called
