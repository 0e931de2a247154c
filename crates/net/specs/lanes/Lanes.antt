-- What a lane makes of its rows.
use Rattle.std.specs.Prelude.{◌≡◌, List, ℕ, ◌+◌, ◌*◌, ◌<◌, length, get_or, ℤ, pos}
use Rattle.paper.specs.Mesh.{most_sides}
use Rattle.paper.specs.Numbers.{rounded}
use Rattle.paper.specs.Cosines.{cosine}
use Rattle.paper.specs.Refined.{RefinedMesh}
use Rattle.paper.specs.Net.{net, net_points}
use Rattle.surface.specs.Points.{point_at}
use Rattle.surface.specs.Sizes.{RefinedSize, CosineSize}
use Rattle.walk.specs.Table.{sides_here, valence_here, entry}
use Rattle.net_rows.specs.declared.sides.FaceValues.{FaceValues}
use Rattle.net_rows.specs.declared.sides.NetSides.{NetSides}
use Rattle.net_rows.specs.sides.Values.{FaceSized, FourSized, FourSides, Around, AtVertex, AtFace}
use Rattle.net.specs.declared.lanes.Rings.{Rings}

-- the face of a ring in lane k: its centre in row i, its points behind and ahead from row j on
abbrev pub rows_face : List ℤ → ℕ → ℕ → ℕ → FaceValues
rows_face stencil k i j = record { centre = point_at stencil k i; ahead = point_at stencil k (j + 1); behind = point_at stencil k j }

-- the rows of the vertex's ring, and those of the face's
abbrev pub vertex_face : List ℤ → ℕ → FaceValues
vertex_face stencil k = rows_face stencil k 7 8

abbrev pub mesh_face : List ℤ → ℕ → ℕ → FaceValues
mesh_face stencil k place = rows_face stencil k 10 (11 + place)

-- C of the two rings at corner c, and its place in the run
pub record RingsAt (table : List ℕ) (c place : ℕ) (g : Rings) : Type 0 where
  pub at_vertex : g.vertex ≡ cosine (entry table valence_here c) 1
  pub at_face : g.face ≡ cosine (entry table sides_here c) 1
  pub place_is : g.place ≡ place

-- lane k has numbers of the sizes that a net is made from
pub record LaneReady (stencil : List ℤ) (k : ℕ) (g : Rings) : Type 0 where
  pub long : length stencil ≡ 128
  pub lane : k < 4
  pub place : g.place < most_sides
  pub points : (i : ℕ) → i < 7 → RefinedSize (point_at stencil k i)
  pub vertex : FaceSized (vertex_face stencil k)
  pub face : FaceSized (mesh_face stencil k g.place)
  pub cosines : CosineSize g.vertex × CosineSize g.face

-- lane k has what the net of corner c is made from
pub record LaneHas (K : RefinedMesh rounded) (c : ℕ) (stencil : List ℤ) (k : ℕ) (g : Rings) : Type 0 where
  pub around : Around K c (point_at stencil k)
  pub vertex : AtVertex K c (vertex_face stencil k) g.vertex
  pub face : AtFace K c (mesh_face stencil k g.place) g.face

-- the sides of whichever corner lane k has
pub record LaneMade (stencil : List ℤ) (k : ℕ) (g : Rings) (r : NetSides) : Type 0 where
  pub four : (K : RefinedMesh rounded) (c : ℕ) → LaneHas K c stencil k g → FourSides K c r
  pub sized : FourSized r

-- the points of whichever corner's net lane k has
abbrev pub LaneFilled : List ℤ → ℕ → Rings → List ℤ → Type 0
LaneFilled stencil k g lanes =
    (K : RefinedMesh rounded) (c : ℕ) → LaneHas K c stencil k g → (p : ℕ) → p < net_points → get_or lanes (k + 4 * p) (pos 0) ≡ get_or (net K c) p (pos 0)
