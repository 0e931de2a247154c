-- `mahunopi::mahunopi_report` meets its contract: it tells what `border_report::report` answers, and leaves the next page's numbers.
use Rattle.page_numbers.proofs.Calls.{report_refused, report_done}
use Rattle.mahunopi.proofs.mahunopi_report.Goals as goal

pub returns-in-Err : goal.returns-in-Err
returns-in-Err c =
    let k = rw c.read.ensures at c.report.ensures in
    search report_refused

pub returns-in-Ok : goal.returns-in-Ok
returns-in-Ok c =
    let k = rw c.read.ensures at c.report.ensures in
    search report_done
