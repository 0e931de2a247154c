-- The refined points of corners at marked vertices: of a face, by the table of sums, and V itself.
use Rattle.std.specs.Prelude.{List, ℕ, ℤ}
use Rattle.paper.specs.Mesh.{Mesh, corner_count}
use Rattle.paper.specs.Corners.{face_of, sides_of, next, previous}
use Rattle.paper.specs.Numbers.{rounded}
use Rattle.paper.specs.Refined.{refined_point}
use Rattle.face_sums.specs.Sums.{vertex_steps, face_sum_at}
use Rattle.corner_points.specs.RefinedPoints.{PointsPut}
use Rattle.corner_points.specs.Mean.{sharpness_weights, mean, face_point}
use Rattle.corner_points.specs.declared.FaceSums.{FaceSums}
use Rattle.refine.specs.Marks.{MarkedIn}

-- a refined point by the row of its face in the table of sums, whatever stands there
abbrev pub table_point : Mesh → List ℤ → ℕ → ℕ → ℤ
table_point M sums axis c =
    let P = vertex_steps M.coordinates M.corners axis in
    mean (sharpness_weights M.sharpness c) (face_sum_at sums (face_of M.sides c) axis) (P (previous M.sides c)) (P c) (P (next M.sides c)) (sides_of M.sides c)

-- those of the corners at marked vertices, from `start` to before `end`
abbrev pub FacePointed : List ℤ → List ℕ → List ℕ → List ℕ → List ℕ → FaceSums → ℕ → ℕ → List ℤ → List ℤ → Type 0
FacePointed coordinates corners sharpness table marked face start end =
    PointsPut (face_point coordinates corners sharpness table face) (MarkedIn corners marked start end)

-- those before `end`, by the table of sums
abbrev pub TablePointed : Mesh → List ℤ → List ℕ → ℕ → List ℤ → List ℤ → Type 0
TablePointed M sums marked end = PointsPut (table_point M sums) (MarkedIn M.corners marked 0 end)

-- V itself, of all of them
abbrev pub MarkedPointed : Mesh → List ℕ → List ℤ → List ℤ → Type 0
MarkedPointed M marked = PointsPut (refined_point rounded M) (MarkedIn M.corners marked 0 (corner_count M))
