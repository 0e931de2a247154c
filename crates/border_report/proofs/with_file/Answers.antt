-- `border_report::with_file` meets its contract: a header that is refused decides; one that passes leaves it to the lists.
use Rattle.paper.specs.Faults.{verdict}
use Rattle.paper.specs.File.{file_mesh, file_verdict}
use Rattle.mesh.proofs.Verdicts.{passed, stop, or_else_sound}
use Rattle.dms_lists.proofs.header.Headers.{header_within}
use Rattle.border_report.proofs.Laws.{refused_added}
use borrow.Author.Rules.{rules}
use Rattle.border_report.proofs.with_file.Goals as goal

pub returns-in-Err : goal.returns-in-Err
unfolding file_verdict
returns-in-Err c =
    let M = file_mesh c.args.file.now in
    refused_added c.args.page M _ c.refuse.result _ _ c.refuse.ensures (stop _ c.check_header.ensures _ c.in-Err.is (verdict M))

pub with_lists-requires : goal.with_lists-requires
with_lists-requires c = (
  header_within c.args.file.now c.args.counted (passed _ c.check_header.ensures _ c.in-Ok.is),
  c.requires,
)

pub returns-in-Ok : goal.returns-in-Ok
unfolding file_verdict
returns-in-Ok c = search (rules, or_else_sound, passed)
