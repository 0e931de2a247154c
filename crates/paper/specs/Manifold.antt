-- What holds at each corner of an accepted mesh, in one record.
use Rattle.std.specs.Prelude.{◌≡◌, ℕ, ◌<◌, ◌≤◌}
use Rattle.paper.specs.Scan.{iterate}
use Rattle.paper.specs.Mesh.{least_sides, most_sides, Mesh, vertex_count, corner_count}
use Rattle.paper.specs.Corners.{face_of, sides_of, next, previous}
use Rattle.paper.specs.Links.{vertex_of, link, reverse, valence}

-- k steps lead back, and fewer do not
pub record Returns (step : ℕ → ℕ) (k c : ℕ) : Type 0 where
  pub back : iterate k step c ≡ c
  pub before : (j : ℕ) → 0 < j → j < k → iterate j step c ≡ c → ⊥

pub record Manifold (M : Mesh) (c : ℕ) : Type 0 where
  -- the steps lead to corners, and a corner names a vertex
  pub named : vertex_of M.corners c < vertex_count M
  pub next_below : next M.sides c < corner_count M
  pub previous_below : previous M.sides c < corner_count M
  pub link_below : link M.sides M.corners c < corner_count M
  -- next and previous undo each other and stay in the face
  pub next_previous : next M.sides (previous M.sides c) ≡ c
  pub previous_next : previous M.sides (next M.sides c) ≡ c
  pub face_next : face_of M.sides (next M.sides c) ≡ face_of M.sides c
  pub face_previous : face_of M.sides (previous M.sides c) ≡ face_of M.sides c
  pub sides_next : sides_of M.sides (next M.sides c) ≡ sides_of M.sides c
  pub sides_previous : sides_of M.sides (previous M.sides c) ≡ sides_of M.sides c
  pub face_turn : Returns (next M.sides) (sides_of M.sides c) c
  -- links are a permutation of the corners that stays at the vertex; the corner whose link is c is previous (link (previous c))
  pub link_vertex : vertex_of M.corners (link M.sides M.corners c) ≡ vertex_of M.corners c
  pub link_valence :
      valence M.corners (vertex_of M.corners (link M.sides M.corners c)) ≡ valence M.corners (vertex_of M.corners c)
  pub injective : (d : ℕ) → d < corner_count M → link M.sides M.corners c ≡ link M.sides M.corners d → c ≡ d
  pub unlinked : previous M.sides (link M.sides M.corners (previous M.sides (link M.sides M.corners c))) ≡ c
  pub relinked : link M.sides M.corners (previous M.sides (link M.sides M.corners (previous M.sides c))) ≡ c
  pub vertex_turn : Returns (link M.sides M.corners) (valence M.corners (vertex_of M.corners c)) c
  -- across the leaving edge
  pub across : link M.sides M.corners (previous M.sides (link M.sides M.corners c)) ≡ next M.sides c
  pub twice_reversed : reverse M.sides M.corners (reverse M.sides M.corners c) ≡ c
  -- sizes
  pub sides_from_lem : least_sides ≤ sides_of M.sides c
  pub sides_to : sides_of M.sides c ≤ most_sides
  pub valence_from : least_sides ≤ valence M.corners (vertex_of M.corners c)
  pub valence_to : valence M.corners (vertex_of M.corners c) ≤ most_sides
