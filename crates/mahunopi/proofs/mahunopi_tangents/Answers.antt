-- `mahunopi::mahunopi_tangents` meets its contract: it tells what `triangles::tangents` answers, and how many numbers it fills.
use Rattle.mahunopi.proofs.Laws.{tangents_done, tangents_refused}
use Rattle.mahunopi.proofs.mahunopi_tangents.Goals as goal

pub returns-in-Ok : goal.returns-in-Ok
returns-in-Ok c = search tangents_done

pub returns-in-Err : goal.returns-in-Err
returns-in-Err c = search tangents_refused
