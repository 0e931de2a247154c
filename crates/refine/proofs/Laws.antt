-- The points of a face by its row of the table of sums; and by a table that holds the sums of the faces that are needed, the refined points.
use mathlib.Core.Path.{◌≡◌, sym}
use mathlib.Core.List.{List}
use Prim.Native.Nat.{ℕ, ◌+◌, ◌*◌, ◌<◌, ◌≤◌}
use native.Mathlib.Omega.{arith}
use lib.ListN.{length, get_or}
use lib.IntN.{ℤ, nat_abs}
use Rattle.paper.specs.Mesh.{most_coordinate, Mesh, plain_mesh, face_count, corner_count}
use Rattle.paper.specs.Links.{vertex_of}
use Rattle.paper.specs.Corners.{start_of, face_of, sides_of, next, previous}
use Rattle.paper.specs.Numbers.{rounded}
use Rattle.paper.specs.Refined.{ticks, u_of, v_of, refined_point, corners_of}
use Rattle.mesh.proofs.Faces.{held, face_at, start_next, start_ends, next_below, previous_below}
use Rattle.walk.specs.Table.{Tabled}
use Rattle.face_sums.specs.Marks.{Needed}
use Rattle.face_sums.specs.Sums.{vertex_steps, face_steps, sum_row, face_sum_at, SumsAre}
use Rattle.face_sums.proofs.Laws.{by_axis, sum_size, face_steps_lem, in_steps_lem}
use Rattle.corner_points.specs.RefinedPoints.{PointsPut}
use Rattle.corner_points.specs.Mean.{sharpness_weights, mean, total_on, FaceSumsRead, FaceKnown, CornerLists, face_point}
use Rattle.corner_points.specs.declared.FaceSums.{FaceSums}
use Rattle.corner_points.proofs.Laws.{in_ticks_lem}
use Rattle.refine.specs.Marks.{MarkedIn}
use Rattle.refine.specs.Sources.{Refinable, SumsFit, Covered}
use Rattle.refine.specs.Pointed.{table_point, FacePointed}
use Rattle.refine.proofs.Points.{put_value}

-- Σ of a face is as large as its sides allow
pub face_steps_size : (M : Mesh) → Refinable M → (f axis : ℕ) → f < face_count M → axis < 3 → nat_abs (face_steps M f axis) ≤ get_or M.sides f 0 * most_coordinate
face_steps_size M R f axis l a =
    sum_size M.coordinates M.corners R.placed (start_of M.sides f) (get_or M.sides f 0) axis a
    (omega (arith, start_ends M.sides f l, R.sums))

-- ---- a face that is wanted, from its row
module _ (M : Mesh) (R : Refinable M) (wanted : List ℕ) (sums : List ℤ) (t : SumsFit M.sides wanted sums) (f : ℕ) (l : f < face_count M)
    (w : 0 < get_or wanted f 0) (face : FaceSums) (r : FaceSumsRead M.sides sums f face) where
  totals_are : (axis : ℕ) → axis < 3 → total_on face axis ≡ face_sum_at sums f axis
  totals_are = by_axis (λ axis. total_on face axis ≡ face_sum_at sums f axis) r.xs r.ys r.zs

  pub face_known : FaceKnown face
  face_known axis a = record {
    least = rw r.sides_are (R.faces.least f l);
    most = rw r.sides_are (R.faces.most f l);
    reciprocal_is = r.reciprocal_is;
    total_size = rw (totals_are axis a, r.sides_are) (t.sizes f axis l a w);
  }

  -- its corners' points are those of the table of sums
  pub face_point_lem : (table : List ℕ) → Tabled (corners_of M) table → (axis c : ℕ) → axis < 3 → start_of M.sides f ≤ c → c < start_of M.sides f + get_or M.sides f 0
      → face_point M.coordinates M.corners M.sharpness table face axis c ≡ table_point M sums axis c
  unfolding sides_of
  face_point_lem table T axis c a from to =
      let h : c < corner_count M = omega (arith, start_ends M.sides f l, R.sums) in
      let e : face_of M.sides c ≡ f = face_at M.sides f c from to l in
      rw (T.previouses c h, T.nexts c h, e, totals_are axis a, r.sides_are)

  pub face_put : (table marked : List ℕ) → Tabled (corners_of M) table → (start : ℕ) → start ≡ start_of M.sides f → {old new : List ℤ}
      → FacePointed M.coordinates M.corners M.sharpness table marked face start (start + face.sides) old new
      → PointsPut (table_point M sums) (MarkedIn M.corners marked (start_of M.sides f) (start_of M.sides (f + 1))) old new
  face_put table marked T start e h =
      let n : start_of M.sides (f + 1) ≡ start + face.sides = omega (arith, start_next M.sides f l, r.sides_are) in
      rw (← e, n) (put_value (λ axis c a m. face_point_lem table T axis c a (omega (arith, m.0)) (omega (arith, m.1, r.sides_are))) h)

module _ (M : Mesh) (R : Refinable M) where
  pub lists_of_lem : (table : List ℕ) → Tabled (corners_of M) table → CornerLists M.coordinates M.corners M.sharpness table
  lists_of_lem table t = record {
    placed = R.placed;
    sharp = R.sharp;
    few = omega (arith, R.sums, R.faces.few);
    long = t.long;
    previous_in = λ c h. rw (t.previouses c h) (omega (arith, previous_below M.sides c (omega (arith, R.sums)), R.sums));
    next_in = λ c h. rw (t.nexts c h) (omega (arith, next_below M.sides c (omega (arith, R.sums)), R.sums));
  }

  -- V, in grid steps
  steps_mean : (axis c : ℕ) → c < corner_count M → let P = vertex_steps M.coordinates M.corners axis in refined_point rounded M axis c
      ≡ mean (sharpness_weights M.sharpness c) (face_steps M (face_of M.sides c) axis) (P (previous M.sides c)) (P c) (P (next M.sides c)) (sides_of M.sides c)
  unfolding refined_point sides_of u_of v_of ticks sharpness_weights
  steps_mean axis c h =
      let f = face_of M.sides c in
      let P = vertex_steps M.coordinates M.corners axis in
      rw (face_steps_lem M f axis)
      (in_ticks_lem (sharpness_weights M.sharpness c) (face_steps M f axis) (P (previous M.sides c)) (P c) (P (next M.sides c)) (get_or M.sides f 0)
      (omega (arith, R.faces.least f (held M.sides c (omega (arith, R.sums))).exists)))

  -- ---- from the table that holds the sums of the faces that are needed
  module _ (marked wanted : List ℕ) (sums : List ℤ)
      (S : SumsAre (plain_mesh M.coordinates M.sides M.corners) marked (face_count M) wanted sums) where
    -- the face of a corner at a marked vertex is
    needs_face : (c : ℕ) → c < corner_count M → 0 < get_or marked (vertex_of M.corners c) 0
        → (face_of M.sides c < face_count M) × Needed M.sides M.corners marked (face_of M.sides c)
    needs_face c h m =
        let i = held M.sides c (omega (arith, R.sums)) in (i.exists, record { at = c; from = i.from; to = i.to; holds = m })

    row_is : (f axis : ℕ) → f < face_count M → axis < 3 → Needed M.sides M.corners marked f → face_sum_at sums f axis ≡ face_steps M f axis
    row_is f axis l a n = in_steps_lem (plain_mesh M.coordinates M.sides M.corners) f axis (face_sum_at sums f axis) (S.sums_are f axis l a n)

    pub covered_of : Covered M.sides M.corners marked wanted
    covered_of c h m = let n = needs_face c h m in (S.told (face_of M.sides c) n.0).yes n.1

    pub fits_of : face_count M ≤ length wanted → sum_row * face_count M ≤ length sums → SumsFit M.sides wanted sums
    fits_of b d = record {
      wanted_long = b;
      sums_long = d;
      sizes = λ f axis l a w. rw (row_is f axis l a ((S.told f l).only w)) (face_steps_size M R f axis l a);
    }

    -- so that its points are V
    pub table_point_lem : (axis c : ℕ) → axis < 3 → MarkedIn M.corners marked 0 (corner_count M) c → table_point M sums axis c ≡ refined_point rounded M axis c
    table_point_lem axis c a m =
        let n = needs_face c m.1 m.2 in rw (row_is (face_of M.sides c) axis n.0 a n.1) (sym (steps_mean axis c m.1))
