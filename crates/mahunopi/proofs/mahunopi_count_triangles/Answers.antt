-- `mahunopi::mahunopi_count_triangles` meets its contract: it tells what `triangles::count` answers, and how many numbers it counts.
use Rattle.mahunopi.proofs.Laws.{counted_done, counted_refused}
use Rattle.mahunopi.proofs.mahunopi_count_triangles.Goals as goal

pub returns-in-Ok : goal.returns-in-Ok
returns-in-Ok c = search counted_done

pub returns-in-Err : goal.returns-in-Err
returns-in-Err c = search counted_refused
