-- `border_report::over` meets its contract: the checks refuse, or their table serves the misses.
use mathlib.Core.Path.{sym, ap, ◌∙◌}
use Rattle.paper.specs.Mesh.{of_lists}
use Rattle.paper.specs.Faults.{verdict, stated, Accepted}
use Rattle.mesh.proofs.Verdicts.{passed}
use Rattle.building.proofs.Laws.{few}
use Rattle.border_report.proofs.Laws.{refused_added, accepted_added}
use Rattle.border_report.proofs.over.Goals as goal

pub returns-in-Err : goal.returns-in-Err
returns-in-Err c =
    let M = of_lists c.args.lists in
    refused_added c.args.page M (verdict M) c.refuse.result _ _ c.refuse.ensures (sym (ap stated c.in-Err.is) ∙ c.check_within.ensures.answers)

pub largest-largest-requires : goal.largest-largest-requires
largest-largest-requires c =
    let M = of_lists c.args.lists in
    let a : Accepted M = passed _ c.check_within.ensures.answers _ c.in_default.is in
    record { mesh = a; table = c.check_within.ensures.tabled a; points = (c.requires.points.0 (few M a), c.requires.points.1) }

pub accept-requires : goal.accept-requires
accept-requires c =
    let M = of_lists c.args.lists in
    let a : Accepted M = passed _ c.check_within.ensures.answers _ c.in_default.is in
    (c.requires.page, few M a)

pub returns : goal.returns
returns c =
    let M = of_lists c.args.lists in
    let a : Accepted M = passed _ c.check_within.ensures.answers _ c.in_default.is in
    accepted_added c.args.page M (verdict M) c.accept.result c.largest-largest.result a c.accept.ensures c.largest-largest.ensures
