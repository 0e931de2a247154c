-- `mahunopi::mahunopi_link` meets its contract: it tells what `linking::link` answers.
use Rattle.mahunopi.proofs.Laws.{called}
use Rattle.mahunopi.proofs.mahunopi_link.Goals as goal

pub returns : goal.returns
returns c = search called
