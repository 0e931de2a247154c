-- `mahunopi::mahunopi_off` meets its contract: it tells what `off::read` answers, and its lengths.
use Rattle.mahunopi.proofs.Laws.{off_done, off_refused}
use Rattle.mahunopi.proofs.mahunopi_off.Goals as goal

pub returns-in-Ok : goal.returns-in-Ok
returns-in-Ok c = search off_done

pub returns-in-Err : goal.returns-in-Err
returns-in-Err c = search off_refused
