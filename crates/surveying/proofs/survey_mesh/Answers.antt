-- A refused mesh has no counts; an accepted one is within the limits, and its counts are counted.
use mathlib.Core.Path.{sym}
use Rattle.std.proofs.lemmas.Result.{err_from_is_err_and}
use Rattle.paper.specs.Mesh.{of_lists}
use Rattle.paper.specs.Faults.{verdict}
use Rattle.surveying.proofs.Surveys.{refused_survey, done_survey, limits}
use Rattle.surveying.proofs.survey_mesh.Goals as goal

pub returns-in_err-check : goal.returns-in_err-check
returns-in_err-check c =
    let M = of_lists c.args.lists in
    let p = err_from_is_err_and c.from_residual.result c.from_residual.ensures.1 in
    rw (p.1, p.2) (refused_survey M (verdict M) _ c.in_err-check.ensures)

pub count-counts-requires : goal.count-counts-requires
count-counts-requires c = limits _ (sym c.in_ok-check.ensures)

pub returns : goal.returns
returns c =
    let M = of_lists c.args.lists in
    done_survey M (verdict M) c.count-counts.result c.in_ok-check.ensures (c.count-counts.ensures M.sharpness)
