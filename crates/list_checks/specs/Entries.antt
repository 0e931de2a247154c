-- The faults of the lists' own numbers, and what lists without one have.
use Rattle.std.specs.Prelude.{◌≡◌, ℕ, ◌<◌, ◌≤◌, length, get_or, Option, Some, None}
use Rattle.paper.specs.Mesh.{least_sides, most_vertices, most_corners, Mesh, vertex_count, face_count, corner_count}
use Rattle.paper.specs.Corners.{sum_of}
use Rattle.paper.specs.Faults.{Verdict, sound, fault, ◌or_else◌, single, lowest_of, fault4, fault27, fault5, fault6, fault7, fault8, fault28}
use Rattle.mesh.specs.Tables.{Named}

-- 4 to 8 with 27 and 28, in their order: what the lists are checked for before 9. They stand in paper's `list_faults` again, which ends with 9: paper
-- holds only what a reader has to believe, and law `then_nine` shows that both say the same.
unfoldable pub entry_faults : Mesh → Verdict
entry_faults M =
    single 4 (fault4 (length M.coordinates) (face_count M) (corner_count M)) 0
    or_else single 27 (fault27 (length M.sharpness) (corner_count M)) (length M.sharpness)
    or_else lowest_of 5 (face_count M) (fault5 M.sides)
    or_else single 6 (fault6 M.sides (corner_count M)) (sum_of M.sides)
    or_else lowest_of 7 (length M.coordinates) (fault7 M.coordinates)
    or_else lowest_of 8 (corner_count M) (fault8 (vertex_count M) M.corners)
    or_else lowest_of 28 (length M.sharpness) (fault28 M.sharpness)

-- what they say of the lists
pub record Listed (M : Mesh) : Type 0 where
  pub few : vertex_count M ≤ most_vertices
  pub small : corner_count M ≤ most_corners
  pub sums : sum_of M.sides ≡ corner_count M
  pub sided : (f : ℕ) → f < face_count M → least_sides ≤ get_or M.sides f 0
  pub named : Named M.corners (vertex_count M)

-- fault k at the place that a search found; none where it found none
abbrev pub at_found : ℕ → Option ℕ → Verdict
at_found k None = sound
at_found k (Some p) = fault k p
