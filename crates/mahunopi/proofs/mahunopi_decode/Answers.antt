-- `mahunopi::mahunopi_decode` meets its contract: it tells what `dms::decode` answers, and its lengths.
use Rattle.mahunopi.proofs.Laws.{decode_done, decode_refused}
use Rattle.mahunopi.proofs.mahunopi_decode.Goals as goal

pub returns-in-Ok : goal.returns-in-Ok
returns-in-Ok c = search decode_done

pub returns-in-Err : goal.returns-in-Err
returns-in-Err c = search decode_refused
