-- The laws that an accepted mesh gives its corners, and the size of its refined points.
use Rattle.std.specs.Prelude.{◌≡◌, ℕ, ◌≤◌, ◌<◌, ◌^◌, nat_abs}
use Rattle.paper.specs.Scan.{iterate}
use Rattle.paper.specs.Mesh.{least_sides, most_sides}
use Rattle.paper.specs.Numbers.{rounded}
use Rattle.paper.specs.Refined.{Corners, RefinedMesh}

pub record Sound (K : Corners) : Type 0 where
  pub next_in : (c : ℕ) → c < K.count → K.next c < K.count
  pub previous_in : (c : ℕ) → c < K.count → K.previous c < K.count
  pub link_in : (c : ℕ) → c < K.count → K.link c < K.count
  pub next_previous : (c : ℕ) → c < K.count → K.next (K.previous c) ≡ c
  pub previous_next : (c : ℕ) → c < K.count → K.previous (K.next c) ≡ c
  pub link_previous_link : (c : ℕ) → c < K.count → K.link (K.previous (K.link c)) ≡ K.next c
  pub face_closes : (c : ℕ) → c < K.count → iterate (K.sides c) K.next c ≡ c
  pub vertex_closes : (c : ℕ) → c < K.count → iterate (K.valence c) K.link c ≡ c
  pub sides_next : (c : ℕ) → c < K.count → K.sides (K.next c) ≡ K.sides c
  pub valence_link : (c : ℕ) → c < K.count → K.valence (K.link c) ≡ K.valence c
  pub sides_least : (c : ℕ) → c < K.count → least_sides ≤ K.sides c
  pub sides_most : (c : ℕ) → c < K.count → K.sides c ≤ most_sides
  pub valence_least : (c : ℕ) → c < K.count → least_sides ≤ K.valence c
  pub valence_most : (c : ℕ) → c < K.count → K.valence c ≤ most_sides

-- two descriptions that agree at each corner
pub record Agree (K L : Corners) : Type 0 where
  pub count : K.count ≡ L.count
  pub next : (c : ℕ) → c < K.count → K.next c ≡ L.next c
  pub previous : (c : ℕ) → c < K.count → K.previous c ≡ L.previous c
  pub link : (c : ℕ) → c < K.count → K.link c ≡ L.link c
  pub sides : (c : ℕ) → c < K.count → K.sides c ≡ L.sides c
  pub valence : (c : ℕ) → c < K.count → K.valence c ≡ L.valence c

-- as large as the refined points of an accepted mesh may be
abbrev pub RefinedSmall : RefinedMesh rounded → Type 0
RefinedSmall K = (c : ℕ) → c < K.corners.count → nat_abs (K.point c) ≤ 2 ^ 24
