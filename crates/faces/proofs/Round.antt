-- One way round a ring: before each turn the walk stands at the place of the turn, and the sums are those of the places before it, each point times
-- its weight. Every sum fits, and at the end the quotients are the centre, where the weights are equal, and the point towards a side.
use mathlib.Core.Path.{◌≡◌, refl, sym, ap, ◌∙◌}
use mathlib.Core.List.{List}
use Prim.Native.Nat.{ℕ, zero, suc, ◌+◌, ◌-◌, ◌*◌, ◌^◌, ◌≤◌, ◌<◌}
use native.Mathlib.Omega.{arith}
use native.Mathlib.Nat.{le_trans, mul-le-mul_right}
use native.Mathlib.Numerals.{add-one}
use lib.Dec.{lit<, lit≤}
use lib.IntN.{ℤ, pos, neg_ℤ, nat_abs, ◌+ℤ◌, ◌*ℤ◌}
use lib.Signed.{◌≤ℤ◌, ◌<ℤ◌, lt_z_yes}
use mir.Syntax.{w64}
use mir.Val.{Fits, of_z, to_z}
use mir.Facts.{to_z-of_z, of_z-to_z}
use Rattle.paper.specs.Scan.{iterate}
use Rattle.paper.specs.Mesh.{least_sides, most_sides}
use Rattle.paper.specs.Numbers.{sum, rounded, round}
use Rattle.paper.specs.Cosines.{unit, cosine}
use Rattle.paper.specs.Face.{centre, weight, toward}
use Rattle.numbers.specs.WithinHalf.{WithinHalf}
use Rattle.numbers.specs.Units.{Units}
use Rattle.numbers.proofs.Diff.{as_diff, diff}
use Rattle.numbers.proofs.Poly.{over, poly}
use Rattle.numbers.proofs.Laws.{abs_mul_le, mul_le, nonneg}
use Rattle.numbers.proofs.Machine.{abs_fits}
use Rattle.numbers.proofs.Nearest.{round_within_half, round_scale}
use Rattle.numbers.proofs.Rules.{cosine_size}
use Rattle.numbers.proofs.Sum.{Cyclic, sum_same, sum_abs, sum_zero, sum_more, sum_times}
use Rattle.mesh.proofs.Rings.{iterate_zero, iterate_suc}
use Rattle.surface.specs.Points.{point_at}
use Rattle.surface.specs.Sizes.{RefinedSize}
use Rattle.surface.proofs.Rings.{iterate_in, iterate_round}
use Rattle.surface.proofs.Sizes.{weight_size, centre_size, toward_size}
use Rattle.walk.specs.Table.{entry}
use Rattle.faces.specs.Ring.{around, ReadableOn, Readable, Ring, IsCentre, IsToward, OnAxes}
use Rattle.faces.specs.declared.FacePoint.{FacePoint}

-- ---- m refined points that repeat
pub record PointRing (p : ℕ → ℤ) (m : ℕ) : Type 0 where
  pub least : least_sides ≤ m
  pub most : m ≤ most_sides
  pub small : (j : ℕ) → RefinedSize (p j)
  pub cyclic : Cyclic p m

-- what stands for a corner, on an axis
on_axis_lem : (points : List ℤ) (d axis : ℕ) → axis < 3 → Readable points d → ReadableOn points axis d
on_axis_lem points d zero l h = h.0
on_axis_lem points d (suc zero) l h = h.1
on_axis_lem points d (suc (suc zero)) l h = h.2
on_axis_lem points d (suc (suc (suc axis))) l h = absurd (omega arith)

-- ---- the points of a ring of the tables
module _ (points : List ℤ) (table : List ℕ) (column c m : ℕ) (r : Ring points table column c m) where
  pub place_in : (j d : ℕ) → d ≡ iterate j (entry table column) c → d < r.count
  place_in j d e = rw e (iterate_in (entry table column) r.count r.step_in j c r.here)

  pub point_ring : (axis : ℕ) → axis < 3 → PointRing (around points axis table column c) m
  unfolding around
  point_ring axis l = record {
    least = r.least;
    most = r.most;
    small = λ j. (on_axis_lem points _ axis l (r.points_hold _ (place_in j _ refl))).1;
    cyclic = λ j. ap (point_at points axis) (iterate_round (entry table column) j m c r.closes);
  }

-- ---- the sum of the first n points of a ring p, each times its weight
abbrev pub weighted : (ℕ → ℤ) → (ℕ → ℤ) → ℕ → ℤ
weighted g p n = sum (λ k. g k *ℤ p k) n

-- a signed local is its bits
abbrev pub plain : ℤ → ℤ
plain z = to_z w64 (of_z w64 z)

-- before the turn at j: where the walk stands, and the sums x, y and z
pub record RingTurn (points : List ℤ) (table : List ℕ) (column c m : ℕ) (g : ℕ → ℤ) (j d x y z : ℕ) : Type 0 where
  pub left : j ≤ m
  pub place : d ≡ iterate j (entry table column) c
  pub sum_x : to_z w64 x ≡ weighted g (around points 0 table column c) j
  pub sum_y : to_z w64 y ≡ weighted g (around points 1 table column c) j
  pub sum_z : to_z w64 z ≡ weighted g (around points 2 table column c) j

-- a sum that the loop holds, by its bits
pub by_bits : {points : List ℤ} {table : List ℕ} {column c m : ℕ} {g : ℕ → ℤ} {j d x y z : ℕ} → Fits w64 x → Fits w64 y → Fits w64 z
    → RingTurn points table column c m g j d (of_z w64 (to_z w64 x)) (of_z w64 (to_z w64 y)) (of_z w64 (to_z w64 z))
    → RingTurn points table column c m g j d x y z
by_bits fx fy fz t = rw (of_z-to_z fx, of_z-to_z fy, of_z-to_z fz) at t

module _ (points : List ℤ) (table : List ℕ) (column c m : ℕ) (g : ℕ → ℤ) where
  pub turn_first : RingTurn points table column c m g 0 c 0 0 0
  turn_first = record {
    left = omega arith;
    place = sym (iterate_zero _ _);
    sum_x = sym (sum_zero _);
    sum_y = sym (sum_zero _);
    sum_z = sym (sum_zero _);
  }

module _ (points : List ℤ) (table : List ℕ) (column c m : ℕ) (r : Ring points table column c m) (g : ℕ → ℤ) (small : (k : ℕ) → nat_abs (g k) ≤ 7 * unit) where
  sum_size : (axis : ℕ) → axis < 3 → (n : ℕ) → n ≤ m → nat_abs (weighted g (around points axis table column c) n) ≤ 2 ^ 61
  sum_size axis l n h =
      let p = around points axis table column c in
      let q = point_ring points table column c m r axis l in
      let most : n ≤ most_sides = omega (arith, r.most) in
      let term : (k : ℕ) → nat_abs (g k *ℤ p k) ≤ 7 * unit * 2 ^ 24 = λ k. abs_mul_le (g k) (p k) (7 * unit) (2 ^ 24) (small k) (q.small k) in
      le_trans (sum_abs (λ k. g k *ℤ p k) n (7 * unit * 2 ^ 24) (λ k t. term k)) (le_trans (mul-le-mul_right (7 * unit * 2 ^ 24) most) (lit≤ tt))

  -- what `add_point` asks, on each axis
  pub asks : (j d x y z : ℕ) (w : ℤ) → RingTurn points table column c m g j d x y z → w ≡ g j
      → (ReadableOn points 0 d × ((nat_abs (to_z w64 x) ≤ 2 ^ 61) × (nat_abs w ≤ 7 * unit)))
      × (ReadableOn points 1 d × ((nat_abs (to_z w64 y) ≤ 2 ^ 61) × (nat_abs w ≤ 7 * unit)))
      × (ReadableOn points 2 d × ((nat_abs (to_z w64 z) ≤ 2 ^ 61) × (nat_abs w ≤ 7 * unit)))
  asks j d x y z w a e =
      let h = r.points_hold d (place_in points table column c m r j d a.place) in
      let f : nat_abs w ≤ 7 * unit = rw e (small j) in (
        (h.0, (rw a.sum_x (sum_size 0 (lit< tt) j a.left), f)),
        (h.1, (rw a.sum_y (sum_size 1 (lit< tt) j a.left), f)),
        (h.2, (rw a.sum_z (sum_size 2 (lit< tt) j a.left), f)),
      )

  -- what it gives, on one
  gives : (axis : ℕ) → axis < 3 → (j d : ℕ) (s w u : ℤ) → j < m → d ≡ iterate j (entry table column) c
      → s ≡ weighted g (around points axis table column c) j → w ≡ g j → u ≡ s +ℤ w *ℤ point_at points axis d
      → plain u ≡ weighted g (around points axis table column c) (j + 1)
  unfolding around
  gives axis l j d s w u h at es ew eu =
      let p = around points axis table column c in
      let e : u ≡ weighted g p (j + 1) = eu ∙ cc (es, ew, ap (point_at points axis) at) ∙ sym (sum_more (λ k. g k *ℤ p k) j) in
      ap plain e ∙ to_z-of_z (abs_fits w64 _ (2 ^ 61) (sum_size axis l (j + 1) (omega arith)) (lit< tt))

  -- the next turn
  pub turn_next : (j d e x y z : ℕ) (w u v t : ℤ) → j < m → RingTurn points table column c m g j d x y z → w ≡ g j → e ≡ entry table column d
      → u ≡ to_z w64 x +ℤ w *ℤ point_at points 0 d → v ≡ to_z w64 y +ℤ w *ℤ point_at points 1 d → t ≡ to_z w64 z +ℤ w *ℤ point_at points 2 d
      → RingTurn points table column c m g (j + 1) e (of_z w64 u) (of_z w64 v) (of_z w64 t)
  turn_next j d e x y z w u v t h a ew ee eu ev et = record {
    left = omega arith;
    place = ee ∙ ap (entry table column) a.place ∙ sym (iterate_suc (entry table column) j c)
        ∙ ap (λ (n : ℕ). iterate n (entry table column) c) (sym (add-one j));
    sum_x = gives 0 (lit< tt) j d (to_z w64 x) w u h a.place a.sum_x ew eu;
    sum_y = gives 1 (lit< tt) j d (to_z w64 y) w v h a.place a.sum_y ew ev;
    sum_z = gives 2 (lit< tt) j d (to_z w64 z) w t h a.place a.sum_z ew et;
  }

-- ---- the end
within : (q : ℤ) (k : ℕ) → nat_abs q ≤ k → (neg_ℤ (pos k) ≤ℤ q) × (q ≤ℤ pos k)
within q k h = as_diff q λ a b e. let h' = simp (diff, e) at h in simp (diff, e) (omega arith, omega arith)

-- a sum whose quotient is no larger than a face point may be
gathered : (n m q : ℤ) → WithinHalf n (pos (3 * unit) *ℤ m) q → pos 1 ≤ℤ m → m ≤ℤ pos most_sides → (m *ℤ q) ≤ℤ (m *ℤ pos (2 ^ 24 + 2 ^ 21))
    → (m *ℤ neg_ℤ (pos (2 ^ 24 + 2 ^ 21))) ≤ℤ (m *ℤ q) → Units n (pos 3 *ℤ m)
gathered = over 3 _ λ ρ. simp (poly, ρ) (omega arith)

units : (n q : ℤ) (m : ℕ) → least_sides ≤ m → m ≤ most_sides → q ≡ round n (pos (3 * unit) *ℤ pos m) → nat_abs q ≤ 2 ^ 24 + 2 ^ 21 → Units n (pos (3 * m))
units n q m low high e h =
    let z = within q (2 ^ 24 + 2 ^ 21) h in
    let d : pos 0 <ℤ (pos (3 * unit) *ℤ pos m) = simp diff (omega arith) in
    gathered n (pos m) q (rw e (round_within_half n _ d)) (simp diff (omega arith)) (simp diff (omega arith))
    (mul_le (pos m) _ _ (nonneg m) z.1) (mul_le (pos m) _ _ (nonneg m) z.0)

-- all weights are 3 times 2^30
abbrev pub equal : ℕ → ℤ
equal k = pos (3 * unit)

pub equal_size : (k : ℕ) → nat_abs (equal k) ≤ 7 * unit
equal_size k = lit≤ tt

module _ (p : ℕ → ℤ) (m : ℕ) (r : PointRing p m) where
  by_equal : centre rounded p m ≡ round (weighted equal p m) (pos (3 * unit) *ℤ pos m)
  unfolding centre
  by_equal =
      sym (ap (λ (z : ℤ). round z (pos (3 * unit) *ℤ pos m)) (sum_times (pos (3 * unit)) p m)
      ∙ round_scale (pos (3 * unit)) (sum p m) (pos m) (lt_z_yes tt) (simp diff (omega (arith, r.least))))

  by_weight : toward rounded p m 0 ≡ round (weighted (weight m) p m) (pos (3 * unit) *ℤ pos m)
  unfolding toward
  by_weight =
      ap (λ (z : ℤ). round z (pos (3 * unit) *ℤ pos m))
      (sum_same (λ k. weight m k *ℤ p (0 + k)) (λ k. weight m k *ℤ p k) m (λ k l. ap (λ (j : ℕ). weight m k *ℤ p j) (first k)))
    where
      first : (k : ℕ) → 0 + k ≡ k
      first k = omega arith

  small_centre : RefinedSize (centre rounded p m)
  small_centre = centre_size p m r.least r.most r.small

  pub centre_units : (s : ℤ) → s ≡ weighted equal p m → Units s (pos (3 * m))
  centre_units s e = rw e (units _ (centre rounded p m) m r.least r.most by_equal (omega (arith, small_centre)))

  pub centre_is : (s q : ℤ) → s ≡ weighted equal p m → q ≡ round s (pos (3 * unit) *ℤ pos m) → IsCentre p m q
  centre_is s q e d = let f : q ≡ centre rounded p m = rw e at d ∙ sym by_equal in record { is = f; size = rw f small_centre }

  pub toward_units : (s : ℤ) → s ≡ weighted (weight m) p m → Units s (pos (3 * m))
  toward_units s e = rw e (units _ (toward rounded p m 0) m r.least r.most by_weight (toward_size p m r.least r.most r.small 0))

  pub toward_is : (s q : ℤ) → s ≡ weighted (weight m) p m → q ≡ round s (pos (3 * unit) *ℤ pos m) → IsToward p m 0 q
  toward_is s q e d =
      let f : q ≡ toward rounded p m 0 = rw e at d ∙ sym by_weight in
      record { is = f; size = rw f (toward_size p m r.least r.most r.small 0) }

-- ---- on the three axes
module _ (points : List ℤ) (table : List ℕ) (column c m d x y z : ℕ) (r : Ring points table column c m) (f : FacePoint) where
  abbrev D : ℤ
  D = pos (3 * unit) *ℤ pos m

  abbrev Quotient : Type 0
  Quotient = (f.x ≡ round (to_z w64 x) D) × (f.y ≡ round (to_z w64 y) D) × (f.z ≡ round (to_z w64 z) D)

  on : (axis : ℕ) → axis < 3 → PointRing (around points axis table column c) m
  on = point_ring points table column c m r

  pub centre_end : RingTurn points table column c m equal m d x y z → Quotient → OnAxes (λ axis. IsCentre (around points axis table column c) m) f
  centre_end t q = record {
    x = centre_is _ m (on 0 (lit< tt)) _ _ t.sum_x q.0;
    y = centre_is _ m (on 1 (lit< tt)) _ _ t.sum_y q.1;
    z = centre_is _ m (on 2 (lit< tt)) _ _ t.sum_z q.2;
  }

  pub toward_end : RingTurn points table column c m (weight m) m d x y z → Quotient → OnAxes (λ axis. IsToward (around points axis table column c) m 0) f
  toward_end t q = record {
    x = toward_is _ m (on 0 (lit< tt)) _ _ t.sum_x q.0;
    y = toward_is _ m (on 1 (lit< tt)) _ _ t.sum_y q.1;
    z = toward_is _ m (on 2 (lit< tt)) _ _ t.sum_z q.2;
  }

-- ---- cosines and weights in the machine's numbers
module _ (m : ℕ) (low : least_sides ≤ m) (high : m ≤ most_sides) where
  pub cosine_plain : (k : ℕ) (u : ℤ) → u ≡ cosine m k → (plain u ≡ cosine m k) × (nat_abs (plain u) ≤ unit)
  cosine_plain k u e =
      let h = cosine_size m low high k in
      let f : plain u ≡ cosine m k = ap plain e ∙ to_z-of_z (abs_fits w64 (cosine m k) unit h (lit< tt)) in
      (f, rw f h)

  pub weights_small : (k : ℕ) → nat_abs (weight m k) ≤ 7 * unit
  weights_small = weight_size (λ j. pos 0) m low high (λ j. omega arith)

  pub weight_plain : (k : ℕ) (last next u : ℤ) → last ≡ cosine m (k + (m - 1)) → next ≡ cosine m k
      → u ≡ pos (3 * unit) +ℤ pos 2 *ℤ next +ℤ pos 2 *ℤ last → plain u ≡ weight m k
  unfolding weight
  weight_plain k last next u el en eu =
      let e : u ≡ weight m k = eu ∙ cc (el, en) in
      ap plain e ∙ to_z-of_z (abs_fits w64 (weight m k) (7 * unit) (weights_small k) (lit< tt))
