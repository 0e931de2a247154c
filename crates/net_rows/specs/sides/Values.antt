-- What the code has of a refined face and of a side of a corner's quad-net, against the definitions.
use Rattle.std.specs.Prelude.{◌≡◌, List, [], ◌∷◌, ℕ, ◌<◌, get_or, ℤ, pos, ◌+ℤ◌, ◌-ℤ◌, ◌*ℤ◌}
use Rattle.paper.specs.Numbers.{round, rounded}
use Rattle.paper.specs.Refined.{Corners, RefinedMesh}
use Rattle.paper.specs.Net.{Side, side0, side1, side2, side3, H, T, X, Y, N, C}
use Rattle.surface.specs.Sound.{Sound}
use Rattle.surface.specs.Sizes.{RefinedSize, FaceSize, ValueSize, CosineSize}
use Rattle.faces.specs.Ring.{FourCentre, FourToward}
use Rattle.net_rows.specs.declared.sides.FaceValues.{FaceValues}
use Rattle.net_rows.specs.declared.sides.SideValues.{SideValues}
use Rattle.net_rows.specs.declared.sides.NetSides.{NetSides}

-- ---- refined faces
-- the numbers of a face that sides are made from
pub record FaceSized (f : FaceValues) : Type 0 where
  pub centre : RefinedSize f.centre
  pub ahead : FaceSize f.ahead
  pub behind : FaceSize f.behind

-- the four-sided face through a, b, c and d in turn, whose refined points are p, at a
pub record Through (p : ℕ → ℤ) (a b c d : ℕ) (r : FaceValues) : Type 0 where
  pub centre : FourCentre (p a) (p b) (p c) (p d) r.centre
  pub ahead : FourToward (p a) (p b) (p c) (p d) r.ahead
  pub behind : FourToward (p d) (p a) (p b) (p c) r.behind
  pub sized : FaceSized r

-- the face of the vertex of c and C of its ring, and the same of the mesh face of c
pub record AtVertex (K : RefinedMesh rounded) (c : ℕ) (f : FaceValues) (v : ℤ) : Type 0 where
  pub centre : f.centre ≡ H K c side0
  pub ahead : f.ahead ≡ X K c side0
  pub behind : f.behind ≡ X K c side3
  pub cosine : v ≡ C K c side0

pub record AtFace (K : RefinedMesh rounded) (c : ℕ) (f : FaceValues) (v : ℤ) : Type 0 where
  pub centre : f.centre ≡ H K c side1
  pub ahead : f.ahead ≡ X K c side1
  pub behind : f.behind ≡ X K c side2
  pub cosine : v ≡ C K c side1

-- ---- the corners around c, in the order of the rows: the rings of its leaving and of its arriving edge
abbrev pub corners_around : Corners → ℕ → List ℕ
corners_around K c =
    c ∷ K.next c ∷ K.previous (K.link c) ∷ K.link c ∷ K.previous (K.link (K.previous c)) ∷ K.link (K.previous c) ∷ K.previous c ∷ []

-- p has their refined points
pub record Around (K : RefinedMesh rounded) (c : ℕ) (p : ℕ → ℤ) : Type 0 where
  pub sound : Sound K.corners
  pub here : c < K.corners.count
  pub points : (i : ℕ) → i < 7 → p i ≡ K.point (get_or (corners_around K.corners c) i 0)

-- ---- sides
-- H, T, X, Y, N and C of a side
pub record IsSide (K : RefinedMesh rounded) (c : ℕ) (s : Side) (r : SideValues) : Type 0 where
  pub head : r.head ≡ H K c s
  pub tail : r.tail ≡ T K c s
  pub x : r.x ≡ X K c s
  pub y : r.y ≡ Y K c s
  pub inner : r.inner ≡ N K c s
  pub cosine : r.cosine ≡ C K c s

pub record SideSized (r : SideValues) : Type 0 where
  pub head : ValueSize r.head
  pub tail : ValueSize r.tail
  pub x : ValueSize r.x
  pub y : ValueSize r.y
  pub inner : ValueSize r.inner
  pub cosine : CosineSize r.cosine

-- one side made from its H, T, X, Y, from the refined points v of the corner and w of the neighbour, and from C
pub record Made (h t p q v w k : ℤ) (r : SideValues) : Type 0 where
  pub head : r.head ≡ h
  pub tail : r.tail ≡ t
  pub x : r.x ≡ p
  pub y : r.y ≡ q
  pub inner : r.inner ≡ round (pos 3 *ℤ p +ℤ pos 3 *ℤ q +ℤ v -ℤ w) (pos 6)
  pub cosine : r.cosine ≡ k
  pub sized : SideSized r

-- all four
pub record FourSides (K : RefinedMesh rounded) (c : ℕ) (r : NetSides) : Type 0 where
  pub side0 : IsSide K c side0 r.side0
  pub side1 : IsSide K c side1 r.side1
  pub side2 : IsSide K c side2 r.side2
  pub side3 : IsSide K c side3 r.side3

pub record FourSized (r : NetSides) : Type 0 where
  pub side0 : SideSized r.side0
  pub side1 : SideSized r.side1
  pub side2 : SideSized r.side2
  pub side3 : SideSized r.side3

-- the sides of whichever corner has the points p around it, the face v at its vertex and the mesh face f, with C of these
pub record SidesOf (p : ℕ → ℤ) (v f : FaceValues) (k l : ℤ) (r : NetSides) : Type 0 where
  pub four : (K : RefinedMesh rounded) (c : ℕ) → Around K c p → AtVertex K c v k → AtFace K c f l → FourSides K c r
  pub sized : FourSized r
