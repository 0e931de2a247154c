-- `mahunopi::mahunopi_nest` meets its contract: it tells what `nesting::nest` answers.
use Rattle.mahunopi.proofs.Laws.{called}
use Rattle.mahunopi.proofs.mahunopi_nest.Goals as goal

pub returns : goal.returns
returns c = search called
