-- `mahunopi::mahunopi_archive` meets its contract: it tells what `rearrange::archive` answers.
use Rattle.mahunopi.proofs.Laws.{called}
use Rattle.mahunopi.proofs.mahunopi_archive.Goals as goal

pub returns : goal.returns
returns c = search called
