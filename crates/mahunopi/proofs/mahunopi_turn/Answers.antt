-- `mahunopi::mahunopi_turn` meets its contract: it tells what `turning::turn` answers, and how many faces it turned.
use Rattle.mahunopi.proofs.Laws.{turn_done, turn_refused}
use Rattle.mahunopi.proofs.mahunopi_turn.Goals as goal

pub returns-in-Ok : goal.returns-in-Ok
returns-in-Ok c = search turn_done

pub returns-in-Err : goal.returns-in-Err
returns-in-Err c = search turn_refused
