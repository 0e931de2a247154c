-- The faces of the edges at a corner, as the code has them from the rows, are those of the definitions; and so are the sides made from them.
use mathlib.Core.Path.{◌≡◌, refl, sym, ap, ◌∙◌}
use Prim.Native.Nat.{ℕ, ◌+◌, ◌^◌}
use native.Mathlib.Omega.{arith}
use lib.Dec.{lit<}
use lib.IntN.{ℤ, pos, ◌+ℤ◌, ◌*ℤ◌}
use mir.Syntax.{w32}
use mir.Val.{SFits}
use mir.Facts.{to_z-of_z}
use Rattle.numbers.proofs.Machine.{abs_fits}
use Rattle.paper.specs.Numbers.{round, rounded}
use Rattle.paper.specs.Refined.{RefinedMesh}
use Rattle.paper.specs.Net.{leaving, arriving, Side, side0, side1, side2, side3, neighbour, quad, points, H, T, X, Y, N, C}
use Rattle.surface.specs.Sizes.{RefinedSize, FaceSize}
use Rattle.surface.proofs.Rings.{points_cyclic}
use Rattle.faces.proofs.Few.{four_centre, four_toward}
use Rattle.net_rows.specs.declared.sides.FaceValues.{FaceValues}
use Rattle.net_rows.specs.declared.sides.SideValues.{SideValues}
use Rattle.net_rows.specs.sides.Values.{Through, Around, IsSide, Made}
use Rattle.net_rows.proofs.rows.Laws.{plain}

-- ---- a number of a face, in the machine
face_fits : (z : ℤ) → FaceSize z → SFits w32 z
face_fits z h = abs_fits w32 z (2 ^ 24 + 2 ^ 21) h (lit< tt)

pub as_face : (z : ℤ) → RefinedSize z → FaceSize z
as_face z h = omega arith

pub face : (z : ℤ) → FaceSize z → FaceSize (plain z)
face z h = rw (to_z-of_z (face_fits z h)) h

pub face_is : (z y : ℤ) → FaceSize z → z ≡ y → plain z ≡ y
face_is z y h e = to_z-of_z (face_fits z h) ∙ e

pub refined_is : (z y : ℤ) → RefinedSize z → z ≡ y → plain z ≡ y
refined_is z y h e = face_is z y (as_face z h) e

pub refined : (z : ℤ) → RefinedSize z → RefinedSize (plain z)
refined z h = rw (refined_is z z h refl) h

-- ---- the face through four rows
module _ (p : ℕ → ℤ) (a b c d : ℕ) (v w x y m t u : ℤ) (va : plain v ≡ p a) (wb : plain w ≡ p b) (xc : plain x ≡ p c) (yd : plain y ≡ p d)
    (hm : (m ≡ round (plain v +ℤ plain w +ℤ plain x +ℤ plain y) (pos 4)) × RefinedSize m)
    (ht : (t ≡ round (pos 5 *ℤ plain v +ℤ pos 5 *ℤ plain w +ℤ plain x +ℤ plain y) (pos 12)) × RefinedSize t)
    (hu : (u ≡ round (pos 5 *ℤ plain y +ℤ pos 5 *ℤ plain v +ℤ plain w +ℤ plain x) (pos 12)) × RefinedSize u) where
  pub through : Through p a b c d (record { centre = plain m; ahead = plain t; behind = plain u })
  through = record {
    centre = four_centre _ _ _ _ _ (refined_is m _ hm.1 (hm.0 ∙ cc (va, wb, xc, yd)), refined m hm.1);
    ahead = four_toward _ _ _ _ _ (refined_is t _ ht.1 (ht.0 ∙ cc (va, wb, xc, yd)), refined t ht.1);
    behind = four_toward _ _ _ _ _ (refined_is u _ hu.1 (hu.0 ∙ cc (va, wb, xc, yd)), refined u hu.1);
    sized = record { centre = refined m hm.1; ahead = face t (as_face t ht.1); behind = face u (as_face u hu.1) };
  }

-- ---- the faces of the two edges at corner c
module _ (K : RefinedMesh rounded) (c : ℕ) (p : ℕ → ℤ) (r : Around K c p) where
  pub leaving_is : (f : FaceValues) → Through p 0 1 2 3 f → (f.centre ≡ T K c side0) × (f.behind ≡ Y K c side0) × (f.ahead ≡ Y K c side1)
  unfolding T Y quad
  leaving_is f h =
      let q = points K c leaving in
      let cyclic = points_cyclic K r.sound c r.here leaving in
      let e0 = sym (r.points 0 (lit< tt)) in
      let e1 = sym (r.points 1 (lit< tt)) in
      let e2 = sym (r.points 2 (lit< tt)) in
      let e3 = sym (r.points 3 (lit< tt)) in (
        (h.centre.of q 0 (record { cyclic = cyclic; first = e0; second = e1; third = e2; fourth = e3 })).is,
        (h.behind.of q 3 (record { cyclic = cyclic; first = e3; second = e0; third = e1; fourth = e2 })).is,
        (h.ahead.of q 0 (record { cyclic = cyclic; first = e0; second = e1; third = e2; fourth = e3 })).is,
      )

  pub arriving_is : (f : FaceValues) → Through p 0 4 5 6 f → (f.centre ≡ T K c side3) × (f.behind ≡ Y K c side2) × (f.ahead ≡ Y K c side3)
  unfolding T Y quad
  arriving_is f h =
      let q = points K c arriving in
      let cyclic = points_cyclic K r.sound c r.here arriving in
      let e0 = ap K.point (r.sound.next_previous c r.here) ∙ sym (r.points 0 (lit< tt)) in
      let e4 = sym (r.points 4 (lit< tt)) in
      let e5 = sym (r.points 5 (lit< tt)) in
      let e6 = sym (r.points 6 (lit< tt)) in (
        (h.centre.of q 1 (record { cyclic = cyclic; first = e0; second = e4; third = e5; fourth = e6 })).is,
        (h.behind.of q 0 (record { cyclic = cyclic; first = e6; second = e0; third = e4; fourth = e5 })).is,
        (h.ahead.of q 1 (record { cyclic = cyclic; first = e0; second = e4; third = e5; fourth = e6 })).is,
      )

-- ---- a side from its parts
pub record SideParts (K : RefinedMesh rounded) (c : ℕ) (s : Side) (h t p q v w k : ℤ) : Type 0 where
  pub head : h ≡ H K c s
  pub tail : t ≡ T K c s
  pub x : p ≡ X K c s
  pub y : q ≡ Y K c s
  pub here : v ≡ K.point c
  pub there : w ≡ K.point (neighbour K.corners c s)
  pub cosine : k ≡ C K c s

pub side_is : (K : RefinedMesh rounded) (c : ℕ) (s : Side) (h t p q v w k : ℤ) (r : SideValues) → SideParts K c s h t p q v w k → Made h t p q v w k r
    → IsSide K c s r
unfolding N
side_is K c s h t p q v w k r e m = record {
  head = m.head ∙ e.head;
  tail = m.tail ∙ e.tail;
  x = m.x ∙ e.x;
  y = m.y ∙ e.y;
  inner = m.inner ∙ cc (e.x, e.y, e.here, e.there);
  cosine = m.cosine ∙ e.cosine;
}
