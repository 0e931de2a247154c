-- `border_report::report` meets its contract: 37 and 38 refuse and the page is as it was, or the file is added.
use mathlib.Core.Path.{sym, ap, ◌∙◌}
use mathlib.Core.List.{List}
use Prim.Native.Nat.{ℕ}
use native.Mathlib.Omega.{arith}
use Rattle.paper.specs.Faults.{stated}
use Rattle.paper.specs.File.{file_mesh, file_verdict}
use Rattle.paper.specs.Report.{added, offered}
use Rattle.mesh.proofs.Verdicts.{passed}
use Rattle.dms_lists.proofs.Reading.{held_bytes}
use Rattle.border_report.proofs.Laws.{refused_report, done_report}
use Rattle.border_report.proofs.report.Goals as goal

pub returns-in-Err : goal.returns-in-Err
returns-in-Err c =
    refused_report c.args.page (offered c.args.bytes.now c.args.counted) _ (sym (ap stated c.in-Err.is) ∙ c.check.ensures)

pub returns : goal.returns
returns c =
    let k = c.args.counted in
    done_report c.args.page (offered c.args.bytes.now k) c.with_file.result (passed _ c.check.ensures _ c.in_default.is)
    (c.with_file.ensures
    ∙ ap (λ (file : List ℕ). added c.args.page (file_mesh file) (file_verdict file k)) (held_bytes c.args.bytes.now _ k (λ l. omega arith) (omega arith)))
