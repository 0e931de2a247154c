-- `mahunopi::mahunopi_triangles` meets its contract: it tells what `triangles::triangles` answers, and how many numbers it fills.
use Rattle.mahunopi.proofs.Laws.{triangles_done, triangles_refused}
use Rattle.mahunopi.proofs.mahunopi_triangles.Goals as goal

pub returns-in-Ok : goal.returns-in-Ok
returns-in-Ok c = search triangles_done

pub returns-in-Err : goal.returns-in-Err
returns-in-Err c = search triangles_refused
