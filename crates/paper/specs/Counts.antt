-- The counts of a mesh: vertices, faces, corners, and for each m the vertices with m corners and the faces with m sides.
use Rattle.std.specs.Prelude.{◌≡◌, List, ℕ, ◌+◌, eqb, get_or}
use Rattle.paper.specs.Scan.{count_below, values_from}
use Rattle.paper.specs.Mesh.{most_sides, Mesh, vertex_count, face_count, corner_count}
use Rattle.paper.specs.Links.{valence}
use Rattle.paper.specs.declared.Counts.{Counts}

-- how many vertices have m corners, and how many faces m sides
unfoldable pub vertices_with : Mesh → ℕ → ℕ
vertices_with M m = count_below (vertex_count M) (λ u. eqb (valence M.corners u) m)

unfoldable pub faces_with : Mesh → ℕ → ℕ
faces_with M m = count_below (face_count M) (λ f. eqb (get_or M.sides f 0) m)

-- these numbers for m from 0 to the most sides
unfoldable pub for_each : (ℕ → ℕ) → List ℕ
for_each f = values_from f 0 (most_sides + 1)

-- the counts are the mesh's own
pub record Counted (M : Mesh) (r : Counts) : Type 0 where
  pub vertices : r.vertices ≡ vertex_count M
  pub faces : r.faces ≡ face_count M
  pub corners : r.corners ≡ corner_count M
  pub cornered : r.cornered ≡ for_each (vertices_with M)
  pub sided : r.sided ≡ for_each (faces_with M)
