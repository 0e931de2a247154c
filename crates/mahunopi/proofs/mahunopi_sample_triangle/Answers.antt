-- `mahunopi::mahunopi_sample_triangle` meets its contract: it tells what `sampling::sample_triangle` answers.
use Rattle.mahunopi.proofs.Laws.{called}
use Rattle.mahunopi.proofs.mahunopi_sample_triangle.Goals as goal

pub returns : goal.returns
returns c = search called
