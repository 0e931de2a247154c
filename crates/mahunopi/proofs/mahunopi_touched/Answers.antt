-- `mahunopi::mahunopi_touched` meets its contract: it tells what `touching::touched` answers.
use Rattle.mahunopi.proofs.Laws.{called}
use Rattle.mahunopi.proofs.mahunopi_touched.Goals as goal

pub returns : goal.returns
returns c = search called
