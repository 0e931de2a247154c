-- `mahunopi::mahunopi_merge` meets its contract: it tells what `pages::merge` answers, and leaves the numbers of the two pages as one.
use Rattle.page_numbers.proofs.Calls.{merge_refused, merge_done}
use Rattle.mahunopi.proofs.mahunopi_merge.Goals as goal

pub returns-in-Err : goal.returns-in-Err
returns-in-Err c =
    let k = rw (c.read.ensures, c.read-2.ensures) at c.merge.ensures in
    search merge_refused

pub returns-in-Ok : goal.returns-in-Ok
returns-in-Ok c =
    let k = rw (c.read.ensures, c.read-2.ensures) at c.merge.ensures in
    search merge_done
