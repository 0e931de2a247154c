-- The lists that were read are those of the file's mesh, so what is answered of them is answered of it.
use mathlib.Core.Path.{subst}
use Rattle.paper.specs.Mesh.{Mesh}
use Rattle.paper.specs.Faults.{verdict}
use Rattle.paper.specs.File.{Surveyed}
use Rattle.dms_lists.proofs.Reading.{mesh_read, coordinates_long, sides_long, corners_long, sharpness_long}
use Rattle.surveying.proofs.survey_lists.Goals as goal

pub returns : goal.returns
returns c =
    let read = mesh_read _ _ _ c.read_lists.ensures _ _ _ c.vertex_count-numbers.ensures.0 c.face_count-faces.ensures.0 c.corner_count-count.ensures.0 in
    subst (λ (M : Mesh). Surveyed M (verdict M) c.survey_mesh.result) read c.survey_mesh.ensures

pub slice_bounds-survey_mesh-end : goal.slice_bounds-survey_mesh-end
slice_bounds-survey_mesh-end c = coordinates_long _ _ _ c.read_lists.ensures _ c.vertex_count-numbers.ensures.0

pub slice_bounds-survey_mesh-end-2 : goal.slice_bounds-survey_mesh-end-2
slice_bounds-survey_mesh-end-2 c = sides_long _ _ _ c.read_lists.ensures _ c.face_count-faces.ensures.0

pub slice_bounds-survey_mesh-end-3 : goal.slice_bounds-survey_mesh-end-3
slice_bounds-survey_mesh-end-3 c = corners_long _ _ _ c.read_lists.ensures _ c.corner_count-count.ensures.0

pub slice_bounds-survey_mesh-end-4 : goal.slice_bounds-survey_mesh-end-4
slice_bounds-survey_mesh-end-4 c = sharpness_long _ _ _ c.read_lists.ensures _ c.corner_count-count.ensures.0
