-- `border_report::with_copies` meets its contract: the lists that were read are those of the file's mesh, so what is added of them is added of it.
use mathlib.Core.Path.{ap, ◌∙◌}
use Rattle.paper.specs.Mesh.{Mesh}
use Rattle.paper.specs.Faults.{verdict}
use Rattle.paper.specs.Report.{added}
use Rattle.dms_lists.proofs.Reading.{mesh_read}
use Rattle.border_report.proofs.with_copies.Goals as goal

pub returns : goal.returns
returns c =
    let read = mesh_read _ _ _ c.read_lists.ensures _ _ _ c.vertex_count-numbers.ensures.0 c.face_count-faces.ensures.0 c.corner_count-count.ensures.0 in
    c.with_mesh.ensures ∙ ap (λ (M : Mesh). added c.args.page M (verdict M)) read
