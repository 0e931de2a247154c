-- A header that is refused decides; one that passes leaves it to the lists, which then lie within the file.
use mathlib.Core.Path.{sym}
use Rattle.std.proofs.lemmas.Result.{err_from_is_err_and}
use Rattle.paper.specs.Faults.{verdict}
use Rattle.paper.specs.File.{file_mesh, file_verdict}
use Rattle.mesh.proofs.Verdicts.{stop}
use Rattle.dms_lists.proofs.header.Headers.{header_within}
use Rattle.surveying.proofs.Surveys.{refused_survey}
use Rattle.dms.proofs.Files.{later_survey}
use Rattle.dms.proofs.survey_file.Goals as goal

pub returns-in_err-check_header : goal.returns-in_err-check_header
unfolding file_verdict
returns-in_err-check_header c =
    let M = file_mesh c.args.file.now in
    let p = err_from_is_err_and c.from_residual.result c.from_residual.ensures.1 in
    rw (p.1, p.2) (refused_survey M _ _ (stop _ c.check_header.ensures _ c.in_err-check_header.was (verdict M)))

pub survey_lists-requires : goal.survey_lists-requires
survey_lists-requires c = header_within c.args.file.now c.args.counted (sym c.in_ok-check_header.ensures)

pub returns : goal.returns
unfolding file_verdict
returns c =
    let M = file_mesh c.args.file.now in
    later_survey M (verdict M) _ (sym c.in_ok-check_header.ensures) c.survey_lists.ensures
