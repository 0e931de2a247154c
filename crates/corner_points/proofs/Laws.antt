-- The sizes on the way to a refined point, and the refined point of a corner by what the corners of its face share.
use mathlib.Core.Path.{◌≡◌, refl, ap, ◌∙◌}
use mathlib.Core.List.{List}
use Prim.Native.Nat.{ℕ, ◌+◌, ◌*◌, ◌^◌, ◌<◌, ◌≤◌}
use native.Mathlib.Nat.{le_trans}
use native.Mathlib.Omega.{arith}
use lib.Dec.{lit<}
use lib.ListN.{length, get_or, length-set}
use lib.IntN.{ℤ, pos, nat_abs, ◌+ℤ◌, ◌*ℤ◌}
use lib.Signed.{◌<ℤ◌, lt_z_yes}
use mir.Syntax.{w32}
use mir.Val.{SFits, to_z}
use mir.Facts.{to_z_pos}
use Rattle.paper.specs.Mesh.{least_sides, most_sides, most_coordinate, plain}
use Rattle.paper.specs.Numbers.{round}
use Rattle.numbers.specs.Units.{Bounded}
use Rattle.numbers.proofs.Diff.{as_diff, diff}
use Rattle.numbers.proofs.Poly.{over, poly}
use Rattle.numbers.proofs.Laws.{abs_mul_le, abs_add_le}
use Rattle.numbers.proofs.Machine.{abs_fits}
use Rattle.numbers.proofs.Nearest.{round_scale}
use Rattle.surface.specs.Points.{point_row}
use Rattle.surface.proofs.Hull.{blend_size, mean_size, weights_sum}
use Rattle.walk.specs.Table.{to_next, to_previous, entry}
use Rattle.face_sums.specs.Sums.{vertex_steps}
use Rattle.face_sums.proofs.Laws.{steps_size, three, three_at, three_beside, three_small}
use Rattle.corner_points.specs.RefinedPoints.{SmallPoints, PointsPut}
use Rattle.corner_points.specs.Mean.{Pair, sharpness_weights, Balanced, Steps, blend, mean, total_on, FaceKnown, CornerLists, face_point}
use Rattle.corner_points.specs.declared.CornerWeights.{CornerWeights}
use Rattle.corner_points.specs.declared.FaceSums.{FaceSums}

-- ---- weights
-- those of a pair within its limits sum to 512
pub balanced : (sharpness : List ℕ) (c : ℕ) → Pair sharpness c → Balanced (sharpness_weights sharpness c)
unfolding sharpness_weights
balanced sharpness c p = weights_sum (get_or sharpness (2 * c) plain) (get_or sharpness (2 * c + 1) plain) p.u_most p.v_most

-- ---- the sizes on the way to a refined point
abbrev pub threefold : CornerWeights → ℤ → ℤ → ℤ → ℤ
threefold w before here after = pos w.before *ℤ before +ℤ pos w.here *ℤ here +ℤ pos w.after *ℤ after

pub record MeanSizes (w : CornerWeights) (total before here after : ℤ) (n : ℕ) : Type 0 where
  pub read : to_z w32 n ≡ pos n
  pub read_face : to_z w32 w.face ≡ pos w.face
  pub read_before : to_z w32 w.before ≡ pos w.before
  pub read_here : to_z w32 w.here ≡ pos w.here
  pub read_after : to_z w32 w.after ≡ pos w.after
  pub on_face : SFits w32 (pos w.face *ℤ total)
  pub on_before : SFits w32 (pos w.before *ℤ before)
  pub on_here : SFits w32 (pos w.here *ℤ here)
  pub on_after : SFits w32 (pos w.after *ℤ after)
  pub two : SFits w32 (pos w.before *ℤ before +ℤ pos w.here *ℤ here)
  pub three : SFits w32 (threefold w before here after)
  pub product : SFits w32 (pos n *ℤ threefold w before here after)
  pub all : SFits w32 (blend w total before here after n)
  pub size : nat_abs (blend w total before here after n) ≤ n * 2 ^ 25
  pub divisor_fits : SFits w32 (pos 2 *ℤ pos n)
  pub bounded : Bounded (2 ^ 24) (blend w total before here after n) (pos 2 *ℤ pos n)

-- what n · 2^25 bounds is at most 2^24 divisors of 2n
divisors : (z : ℤ) (n : ℕ) → least_sides ≤ n → n ≤ most_sides → nat_abs z ≤ n * 2 ^ 25 → Bounded (2 ^ 24) z (pos 2 *ℤ pos n)
divisors z n l h k =
    as_diff z λ a b e. let k' = simp (diff, e) at k in simp (diff, e) (omega arith, omega arith, omega arith, omega arith)

module _ (w : CornerWeights) (b : Balanced w) (total before here after : ℤ) (face : FaceSums) (t : Steps total before here after face) where
  pub sizes : MeanSizes w total before here after face.sides
  sizes =
      let n = face.sides in
      let B = most_coordinate in
      let f = abs_mul_le (pos w.face) total 512 (n * B) (omega arith) t.known.total_size in
      let x = abs_mul_le (pos w.before) before 512 B (omega arith) t.before_size in
      let y = abs_mul_le (pos w.here) here 512 B (omega arith) t.here_size in
      let z = abs_mul_le (pos w.after) after 512 B (omega arith) t.after_size in
      let xy = abs_add_le (pos w.before *ℤ before) (pos w.here *ℤ here) _ _ x y in
      let xyz = abs_add_le (pos w.before *ℤ before +ℤ pos w.here *ℤ here) (pos w.after *ℤ after) _ _ xy z in
      let p = abs_mul_le (pos n) (threefold w before here after) n _ (omega arith) xyz in
      let e = blend_size B n w.face w.before w.here w.after total before here after b t.known.total_size t.before_size t.here_size
      t.after_size in
      record {
        read = to_z_pos w32 (omega (arith, t.known.most));
        read_face = to_z_pos w32 (omega arith);
        read_before = to_z_pos w32 (omega arith);
        read_here = to_z_pos w32 (omega arith);
        read_after = to_z_pos w32 (omega arith);
        on_face = abs_fits w32 (pos w.face *ℤ total) (2 ^ 29) (le_trans f (omega (arith, t.known.most))) (lit< tt);
        on_before = abs_fits w32 (pos w.before *ℤ before) (2 ^ 25) (le_trans x (omega arith)) (lit< tt);
        on_here = abs_fits w32 (pos w.here *ℤ here) (2 ^ 25) (le_trans y (omega arith)) (lit< tt);
        on_after = abs_fits w32 (pos w.after *ℤ after) (2 ^ 25) (le_trans z (omega arith)) (lit< tt);
        two = abs_fits w32 (pos w.before *ℤ before +ℤ pos w.here *ℤ here) (2 ^ 26) (le_trans xy (omega arith)) (lit< tt);
        three = abs_fits w32 (threefold w before here after) (3 * 2 ^ 25) (le_trans xyz (omega arith)) (lit< tt);
        product = abs_fits w32 (pos n *ℤ threefold w before here after) (3 * 2 ^ 29) (le_trans p (omega (arith, t.known.most))) (lit< tt);
        all = abs_fits w32 (blend w total before here after n) (2 ^ 29) (le_trans e (omega (arith, t.known.most))) (lit< tt);
        size = le_trans e (omega arith);
        divisor_fits = record { sfits = omega (arith, t.known.most) };
        bounded = divisors (blend w total before here after n) n t.known.least t.known.most (le_trans e (omega arith));
      }

-- ---- in ticks: 256 of them are a grid step, which leaves 2n of the divisor 512n
blend_scale : (f l h r n t b m a : ℤ) → f *ℤ (pos 256 *ℤ t) +ℤ n *ℤ (l *ℤ (pos 256 *ℤ b) +ℤ h *ℤ (pos 256 *ℤ m) +ℤ r *ℤ (pos 256 *ℤ a))
    ≡ pos 256 *ℤ (f *ℤ t +ℤ n *ℤ (l *ℤ b +ℤ h *ℤ m +ℤ r *ℤ a))
blend_scale f l h r n t b m a = ap (λ (z : ℤ). f *ℤ (pos 256 *ℤ t) +ℤ n *ℤ z) (three l h r b m a) ∙ two f n t (l *ℤ b +ℤ h *ℤ m +ℤ r *ℤ a)
  where
    three : (l h r b m a : ℤ) → l *ℤ (pos 256 *ℤ b) +ℤ h *ℤ (pos 256 *ℤ m) +ℤ r *ℤ (pos 256 *ℤ a) ≡ pos 256 *ℤ (l *ℤ b +ℤ h *ℤ m +ℤ r *ℤ a)
    three = over 6 _ λ ρ. simp (poly, ρ) (omega arith)

    two : (f n t s : ℤ) → f *ℤ (pos 256 *ℤ t) +ℤ n *ℤ (pos 256 *ℤ s) ≡ pos 256 *ℤ (f *ℤ t +ℤ n *ℤ s)
    two = over 4 _ λ ρ. simp (poly, ρ) (omega arith)

divisor : (n : ℕ) → pos 512 *ℤ pos n ≡ pos 256 *ℤ (pos 2 *ℤ pos n)
divisor n = ap pos (let q : 512 * n ≡ 256 * (2 * n) = omega arith in q)

module _ (w : CornerWeights) (total before here after : ℤ) (n : ℕ) (some : 0 < n) where
  pub in_ticks_lem : round (blend w (pos 256 *ℤ total) (pos 256 *ℤ before) (pos 256 *ℤ here) (pos 256 *ℤ after) n) (pos 512 *ℤ pos n)
      ≡ mean w total before here after n
  in_ticks_lem =
      rw (blend_scale (pos w.face) (pos w.before) (pos w.here) (pos w.after) (pos n) total before here after, divisor n)
      (round_scale (pos 256) (blend w total before here after n) (pos 2 *ℤ pos n) (lt_z_yes tt) (positive n some))
    where
      positive : (n : ℕ) → 0 < n → pos 0 <ℤ (pos 2 *ℤ pos n)
      positive n h = simp diff (omega arith)

  pub result_size : nat_abs (blend w total before here after n) ≤ n * 2 ^ 25 → nat_abs (mean w total before here after n) ≤ 2 ^ 24
  result_size h =
      let z = blend w total before here after n in
      rw (← in_ticks_lem)
      (mean_size n _ some
      (rw (blend_scale (pos w.face) (pos w.before) (pos w.here) (pos w.after) (pos n) total before here after)
      (le_trans (abs_mul_le (pos 256) z 256 (n * 2 ^ 25) (omega arith) h) (omega arith))))

-- ---- a corner, by what the corners of its face share
module _ (coordinates : List ℤ) (corners sharpness table : List ℕ) (L : CornerLists coordinates corners sharpness table) (c : ℕ) (h : c < length corners) where
  pub pair_of : Pair sharpness c
  pair_of = record { long = omega (arith, L.sharp.pairs); u_most = L.sharp.sixteenths (2 * c); v_most = L.sharp.sixteenths (2 * c + 1) }

  pub point_size : (face : FaceSums) → FaceKnown face → (axis : ℕ) → axis < 3 → nat_abs (face_point coordinates corners sharpness table face axis c) ≤ 2 ^ 24
  point_size face k axis a =
      let P = vertex_steps coordinates corners axis in
      let w = sharpness_weights sharpness c in
      let s = sizes w (balanced sharpness c pair_of) (total_on face axis) (P (entry table to_previous c)) (P c) (P (entry table to_next c)) face (record {
        known = k axis a;
        before_size = steps_size coordinates corners L.placed axis (entry table to_previous c) a (L.previous_in c h);
        here_size = steps_size coordinates corners L.placed axis c a h;
        after_size = steps_size coordinates corners L.placed axis (entry table to_next c) a (L.next_in c h);
      }) in
      result_size w (total_on face axis) (P (entry table to_previous c)) (P c) (P (entry table to_next c)) face.sides (omega (arith, (k axis a).least)) s.size

-- ---- one corner in the table of refined points: three numbers at its row
module _ {value : ℕ → ℕ → ℤ} (c : ℕ) (old : List ℤ) (x y z : ℤ) (room : point_row * c + 3 ≤ length old) where
  pub put_one : x ≡ value 0 c → y ≡ value 1 c → z ≡ value 2 c → ((axis : ℕ) → axis < 3 → nat_abs (value axis c) ≤ 2 ^ 24) → SmallPoints old
      → PointsPut value (λ d. d ≡ c) old (three old (point_row * c) x y z)
  put_one ex ey ez size h = record {
    points_are = λ axis d a e. rw e (three_at old (point_row * c) x y z room (λ k. value k c) ex ey ez axis a);
    others = λ i n. three_beside old (point_row * c) x y z room i (λ axis a e. n axis c a refl e);
    same = simp length-set;
    small = three_small old (point_row * c) x y z room (2 ^ 24) (rw ex (size 0 (omega arith))) (rw ey (size 1 (omega arith))) (rw ez (size 2 (omega arith))) h;
  }
