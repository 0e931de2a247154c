-- `mahunopi::mahunopi_floats` meets its contract: it tells what `floats::point` answers, and lays its floats out.
use Rattle.mahunopi.proofs.Laws.{floats_near, floats_far, floats_refused}
use Rattle.mahunopi.proofs.mahunopi_floats.Goals as goal

pub returns-in-Ok-Near : goal.returns-in-Ok-Near
returns-in-Ok-Near c = floats_near _ _ _ _ _ _ (rw c.in-Ok-Near.field-0-is at c.in-Ok-Near.ensures)

pub returns-in-Ok-Far : goal.returns-in-Ok-Far
returns-in-Ok-Far c = floats_far _ _ _ _ _ _ _ (rw c.in-Ok-Far.field-0-is at c.in-Ok-Far.ensures)

pub returns-in-Err : goal.returns-in-Err
returns-in-Err c = floats_refused _ _ _ _ _ _ _ _ c.in-Err.ensures c.tell.ensures
