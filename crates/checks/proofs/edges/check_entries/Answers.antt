-- Checks 10 and 11 meet their contract: where no entry is as high as one of a corner at fault, and after both, the entries are the links.
use mathlib.Core.Path.{refl}
use Rattle.list_checks.proofs.Laws.{handed}
use Rattle.checks.proofs.edges.Faults.{repeats_refused, edges_checked, edges_passed}
use Rattle.checks.proofs.edges.check_entries.Goals as goal

pub returns-then-highest_entry-lt-ALONE : goal.returns-then-highest_entry-lt-ALONE
returns-then-highest_entry-lt-ALONE c =
    edges_passed _ _ c.requires.0 c.highest_entry.result c.if-highest_entry-lt-ALONE.true c.highest_entry.ensures

pub returns-in_err-refuse : goal.returns-in_err-refuse
returns-in_err-refuse c =
    let b = c.from_residual in
    let r = c.in_err-refuse.field-0.0 in
    repeats_refused _ _ c.requires.0 b.result r.number r.place (handed b.result r b.ensures.1 refl) c.in_err-refuse.ensures

pub returns : goal.returns
returns c =
    edges_checked _ _ c.requires.0 c.refuse-2.result c.in_ok-refuse.ensures c.refuse-2.ensures
