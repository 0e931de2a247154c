-- `mahunopi::mahunopi_build` meets its contract: it tells what `building::build` answers.
use Rattle.mahunopi.proofs.Laws.{called}
use Rattle.mahunopi.proofs.mahunopi_build.Goals as goal

pub returns : goal.returns
returns c = search called
