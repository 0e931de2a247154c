-- Sizes at a corner of an accepted mesh: the ends, the face points, the inner points and all 41 points.
-- The weights of a face point add up, signs dropped, to at most 10/9 of its divisor: one computed test over all rows (`heavy`).
use mathlib.Core.Path.{◌≡◌, ◌∙◌, ap, refl, subst}
use mathlib.Core.Bool.{Bool}
use mathlib.Core.List.{List, [], ◌∷◌}
use Prim.Native.Nat.{ℕ, zero, suc, ◌+◌, ◌-◌, ◌*◌, ◌^◌, ◌<◌, ◌≤◌}
use native.Mathlib.Omega.{arith}
use lib.ListN.{get_or}
use lib.IntN.{ℤ, pos, ◌+ℤ◌, ◌*ℤ◌, nat_abs}
use lib.Signed.{le_z, ◌≤ℤ◌}
use Rattle.paper.specs.Mesh.{least_sides, most_sides}
use Rattle.paper.specs.Numbers.{sum, sum_by, round, rounded}
use Rattle.paper.specs.Cosines.{unit, table, cosine}
use Rattle.paper.specs.Refined.{RefinedMesh}
use Rattle.paper.specs.Face.{weight, centre, toward}
use Rattle.paper.specs.Net.{End, Side, side0, side1, side2, side3, head, tail, neighbour, at_head, at_tail, opposite, size, head_place, tail_place, points, H, T}
use Rattle.paper.specs.Net.{X, Y, N, C, outer1, outer2, outer3, a0, a1, a2, a3, middle, b_head, b_tail, a_head, a_tail, b22, b_grid, a_grid, net}
use Rattle.numbers.proofs.Diff.{diff}
use Rattle.numbers.proofs.Poly.{over, poly}
use Rattle.numbers.proofs.Laws.{abs_mul_le, add_comm}
use Rattle.numbers.proofs.Sum.{sum_abs}
use Rattle.paper.proofs.Below.{below_at}
use Rattle.numbers.specs.WithinHalf.{WithinHalf}
use Rattle.numbers.proofs.Nearest.{within_half_is}
use Rattle.numbers.proofs.Rules.{bottom, cosine_size}
use Rattle.surface.specs.Sound.{Sound, RefinedSmall}
use Rattle.surface.specs.Sizes.{RefinedSize, FaceSize, ValueSize, WrittenSize, CosineSize}
use Rattle.surface.proofs.Within.{Within, within_cancel, abs_within, positive}
use Rattle.surface.proofs.Faces.{toward_within_half, centre_within_half}
use Rattle.surface.proofs.Rings.{neighbour_in, points_small, size_least, size_most}
use Rattle.surface.proofs.Roundings.{outer1_is, outer3_is, N-is, a1_is, a2_is, middle_is}
use Rattle.surface.proofs.Formulas.{half_written, quarter_written, inner_value, second_written, third_written, middle_written}

-- ---- the weights of a row
heavy_test : ℕ → Bool
heavy_test a = le_z (pos 3 *ℤ sum (λ k. pos (nat_abs (weight (a + least_sides) k))) (a + least_sides)) (pos (10 * unit) *ℤ pos (a + least_sides))

pub heavy : (m : ℕ) → least_sides ≤ m → m ≤ most_sides → (pos 3 *ℤ sum (λ k. pos (nat_abs (weight m k))) m) ≤ℤ (pos (10 * unit) *ℤ pos m)
unfolding table cosine weight sum_by heavy_test
heavy m low high =
    let e : m - least_sides + least_sides ≡ m = omega arith in
    subst (λ (n : ℕ). (pos 3 *ℤ sum (λ k. pos (nat_abs (weight n k))) n) ≤ℤ (pos (10 * unit) *ℤ pos n)) e
    (record { le = below_at heavy_test (most_sides - 2) tt (m - least_sides) (omega arith) })

weighted : (p w : ℕ → ℤ) (B n : ℕ) → ((k : ℕ) → nat_abs (p k) ≤ B) → Within (sum (λ k. p k *ℤ w k) n) (pos B *ℤ sum (λ k. pos (nat_abs (w k))) n)
unfolding sum_by
weighted p w B zero h = simp diff (omega arith)
weighted p w B (suc n) h =
    more (sum (λ k. p k *ℤ w k) n) (sum (λ k. pos (nat_abs (w k))) n) (p n *ℤ w n) (pos (nat_abs (w n))) (pos B) (weighted p w B n h)
    (abs_within (p n *ℤ w n) B (nat_abs (w n)) (abs_mul_le (p n) (w n) B (nat_abs (w n)) (h n) (omega arith)))
  where
    more : (s a x b B : ℤ) → Within s (B *ℤ a) → Within x (B *ℤ b) → Within (s +ℤ x) (B *ℤ (a +ℤ b))
    more = over 5 _ λ ρ. simp poly (omega arith)

-- ---- one refined face of points up to 2^24
mean : (M P Q : ℤ) → Within P (M *ℤ pos (2 ^ 24)) → WithinHalf P M Q → Within (M *ℤ (pos 2 *ℤ Q)) (M *ℤ pos (2 * 2 ^ 24 + 1))
mean = over 3 _ λ ρ. simp (poly, ρ) (omega arith)

pub halve : (Q : ℤ) → Within (pos 2 *ℤ Q) (pos (2 * 2 ^ 24 + 1)) → RefinedSize Q
halve = over 1 _ λ ρ. simp (poly, ρ) (omega arith)

face_mean : (M G W Q : ℤ) → (pos 3 *ℤ W) ≤ℤ (pos (10 * unit) *ℤ M) → Within G (pos (2 ^ 24) *ℤ W) → WithinHalf G (pos (3 * unit) *ℤ M) Q
    → Within (M *ℤ (pos 18 *ℤ Q)) (M *ℤ pos (20 * 2 ^ 24 + 9))
face_mean = over 4 _ λ ρ. simp (poly, ρ) (omega arith)

ninth : (Q : ℤ) → Within (pos 18 *ℤ Q) (pos (20 * 2 ^ 24 + 9)) → FaceSize Q
ninth = over 1 _ λ ρ. simp (poly, ρ) (omega arith)

module _ (p : ℕ → ℤ) (m : ℕ) (low : least_sides ≤ m) (high : m ≤ most_sides) (small : (j : ℕ) → RefinedSize (p j)) where
  pub centre_size : RefinedSize (centre rounded p m)
  centre_size =
      let here : 0 < m = omega arith in
      halve (centre rounded p m) (within_cancel (pos m) (pos 2 *ℤ centre rounded p m) (pos (2 * 2 ^ 24 + 1)) (positive m here)
      (mean (pos m) (sum p m) (centre rounded p m) (abs_within (sum p m) m (2 ^ 24) (sum_abs p m (2 ^ 24) (λ j l. small j))) (centre_within_half p m here)))

  bounded : (i : ℕ) → Within (sum (λ k. p (i + k) *ℤ weight m k) m) (pos (2 ^ 24) *ℤ sum (λ k. pos (nat_abs (weight m k))) m)
  bounded i = weighted (λ k. p (i + k)) (weight m) (2 ^ 24) m (λ k. small (i + k))

  pub toward_size : (i : ℕ) → FaceSize (toward rounded p m i)
  toward_size i =
      let here : 0 < m = omega arith in
      ninth (toward rounded p m i) (within_cancel (pos m) (pos 18 *ℤ toward rounded p m i) (pos (20 * 2 ^ 24 + 9)) (positive m here)
      (face_mean (pos m) (sum (λ k. p (i + k) *ℤ weight m k) m) (sum (λ k. pos (nat_abs (weight m k))) m) (toward rounded p m i)
      (heavy m low high) (bounded i) (toward_within_half p m i here)))

  pub weight_size : (k : ℕ) → nat_abs (weight m k) ≤ 7 * unit
  unfolding weight
  weight_size k = seven (cosine m k) (cosine m (k + (m - 1))) (cosine_size m low high k) (cosine_size m low high (k + (m - 1)))
    where
      seven : (x y : ℤ) → nat_abs x ≤ unit → nat_abs y ≤ unit → nat_abs (pos (3 * unit) +ℤ pos 2 *ℤ x +ℤ pos 2 *ℤ y) ≤ 7 * unit
      seven = over 2 _ λ ρ. simp (poly, ρ) (omega arith)

-- ---- a cosine; a mean of two
top : (z : ℤ) → nat_abs z ≤ unit → z ≤ℤ pos unit
top = over 1 _ λ ρ. simp (poly, ρ) (omega arith)

half_small : (x y : ℤ) → WrittenSize x → WrittenSize y → WrittenSize (round (x +ℤ y) (pos 2))
half_small x y h l = half_written x y (round (x +ℤ y) (pos 2)) (h, l) (within_half_is (x +ℤ y) (pos 2) (round (x +ℤ y) (pos 2)) tt refl)

-- ---- a list of numbers that are all small
infixr 25 ◌then◌
data All : List ℤ → Type 0 where
  none : All []
  ◌then◌ : {z : ℤ} {l : List ℤ} → WrittenSize z → All l → All (z ∷ l)

all_at : (l : List ℤ) → All l → (j : ℕ) → WrittenSize (get_or l j (pos 0))
all_at [] none j = omega arith
all_at (z ∷ l) (h then t) zero = h
all_at (z ∷ l) (h then t) (suc j) = all_at l t j

-- ---- of a corner's sides
module _ (K : RefinedMesh rounded) (ok : Sound K.corners) (bound : RefinedSmall K) (c : ℕ) (here : c < K.corners.count) where
  end_size : (e : End) → nat_abs (centre rounded (points K c e) (size K.corners c e)) ≤ 2 ^ 24
  end_size e = centre_size (points K c e) (size K.corners c e) (size_least K.corners ok c here e) (size_most K.corners ok c here e)
      (points_small K ok c here bound e)

  face_size : (e : End) (i : ℕ) → nat_abs (toward rounded (points K c e) (size K.corners c e) i) ≤ 2 ^ 24 + 2 ^ 21
  face_size e = toward_size (points K c e) (size K.corners c e) (size_least K.corners ok c here e) (size_most K.corners ok c here e)
      (points_small K ok c here bound e)

  pub H-size : (s : Side) → RefinedSize (H K c s)
  unfolding H
  H-size s = end_size (head s)

  pub T-size : (s : Side) → RefinedSize (T K c s)
  unfolding T
  T-size s = end_size (tail s)

  pub X-size : (s : Side) → FaceSize (X K c s)
  unfolding X
  X-size s = face_size (head s) (head_place K.corners c s)

  pub Y-size : (s : Side) → FaceSize (Y K c s)
  unfolding Y
  Y-size s = face_size (tail s) (tail_place s)

  pub N-size : (s : Side) → ValueSize (N K c s)
  N-size s =
      inner_value (X K c s) (Y K c s) (K.point c) (K.point (neighbour K.corners c s)) (N K c s)
      (X-size s, Y-size s, bound c here, bound _ (neighbour_in K.corners ok c here s)) (within_half_is _ _ _ tt (N-is K c s))

  pub C-cosine : (s : Side) → CosineSize (C K c s)
  unfolding C
  C-cosine s =
      let low = size_least K.corners ok c here (head s) in
      let high = size_most K.corners ok c here (head s) in
      (bottom (size K.corners c (head s)) low high, top (C K c s) (cosine_size (size K.corners c (head s)) low high 1))

  H-value : (s : Side) → ValueSize (H K c s)
  H-value s = omega (arith, H-size s)

  T-value : (s : Side) → ValueSize (T K c s)
  T-value s = omega (arith, T-size s)

  X-value : (s : Side) → ValueSize (X K c s)
  X-value s = omega (arith, X-size s)

  Y-value : (s : Side) → ValueSize (Y K c s)
  Y-value s = omega (arith, Y-size s)

  -- ---- the points
  pub outer1_size : (s : Side) → WrittenSize (outer1 K c s)
  outer1_size s = quarter_written (H K c s) (X K c s) (outer1 K c s) (H-value s, X-value s) (within_half_is _ _ _ tt (outer1_is K c s))

  pub outer2_size : (s : Side) → WrittenSize (outer2 K c s)
  unfolding outer2
  outer2_size s = half_small (X K c s) (Y K c s) (omega (arith, X-size s)) (omega (arith, Y-size s))

  pub outer3_size : (s : Side) → WrittenSize (outer3 K c s)
  outer3_size s =
      quarter_written (T K c s) (Y K c s) (outer3 K c s) (T-value s, Y-value s)
      (within_half_is _ _ _ tt (outer3_is K c s ∙ ap (λ n. round n (pos 4)) (add_comm (pos 3 *ℤ Y K c s) (T K c s))))

  pub a0_size : (s : Side) → WrittenSize (a0 K c s)
  unfolding a0
  a0_size s = half_small (outer1 K c s) (outer1 K c (at_head s)) (outer1_size s) (outer1_size (at_head s))

  pub a1_size : (s : Side) → WrittenSize (a1 K c s)
  a1_size s =
      second_written (C K c s) (H K c s) (X K c s) (Y K c s) (X K c (at_head s)) (N K c s) (a1 K c s)
      (C-cosine s, H-value s, X-value s, Y-value s, X-value (at_head s), N-size s) (within_half_is _ _ _ tt (a1_is K c s))

  pub a2_size : (s : Side) → WrittenSize (a2 K c s)
  a2_size s =
      third_written (C K c s) (T K c s) (Y K c s) (Y K c (at_tail s)) (N K c s) (a2 K c s)
      (C-cosine s, T-value s, Y-value s, Y-value (at_tail s), N-size s) (within_half_is _ _ _ tt (a2_is K c s))

  pub a3_size : (s : Side) → WrittenSize (a3 K c s)
  unfolding a3
  a3_size s = half_small (outer3 K c s) (outer3 K c (at_tail s)) (outer3_size s) (outer3_size (at_tail s))

  pub middle_size : (s : Side) → WrittenSize (middle K c s)
  middle_size s =
      middle_written (N K c s) (N K c (opposite s)) (N K c (at_head s)) (N K c (at_tail s)) (X K c (at_head s)) (Y K c (at_tail s)) (H K c s) (T K c s)
      (middle K c s)
      (N-size s, N-size (opposite s), N-size (at_head s), N-size (at_tail s), X-value (at_head s), Y-value (at_tail s), H-value s, T-value s)
      (within_half_is _ _ _ tt (middle_is K c s))

  pub b_head_size : (s : Side) → WrittenSize (b_head K c s)
  unfolding b_head
  b_head_size s = half_small (a1 K c (at_head s)) (a1 K c s) (a1_size (at_head s)) (a1_size s)

  pub b_tail_size : (s : Side) → WrittenSize (b_tail K c s)
  unfolding b_tail
  b_tail_size s = half_small (a2 K c s) (a2 K c (at_tail s)) (a2_size s) (a2_size (at_tail s))

  pub a_head_size : (s : Side) → WrittenSize (a_head K c s)
  unfolding a_head
  a_head_size s = half_small (middle K c s) (middle K c (at_head s)) (middle_size s) (middle_size (at_head s))

  pub a_tail_size : (s : Side) → WrittenSize (a_tail K c s)
  unfolding a_tail
  a_tail_size s = half_small (middle K c s) (middle K c (at_tail s)) (middle_size s) (middle_size (at_tail s))

  pub b22_size : WrittenSize (b22 K c)
  unfolding b22
  b22_size = half_small (a_tail K c side0) (a_tail K c side3) (a_tail_size side0) (a_tail_size side3)

  -- ---- all 41
  H-written : (s : Side) → WrittenSize (H K c s)
  H-written s = omega (arith, H-size s)

  T-written : (s : Side) → WrittenSize (T K c s)
  T-written s = omega (arith, T-size s)

  all_small : All (net K c)
  unfolding net b_grid a_grid
  all_small =
      H-written side0 then outer1_size side0 then outer2_size side0 then outer3_size side0 then T-written side0
      then outer1_size side3 then b_head_size side0 then middle_size side0 then b_tail_size side0 then outer3_size side1
      then outer2_size side3 then middle_size side3 then b22_size then middle_size side1 then outer2_size side1
      then outer3_size side3 then b_tail_size side3 then middle_size side2 then b_head_size side1 then outer1_size side1
      then T-written side3 then outer3_size side2 then outer2_size side2 then outer1_size side2 then H-written side2
      then a0_size side0 then a1_size side0 then a2_size side0 then a3_size side0
      then a1_size side3 then a_head_size side0 then a_tail_size side0 then a2_size side1
      then a2_size side3 then a_tail_size side3 then a_head_size side1 then a1_size side1
      then a3_size side3 then a2_size side2 then a1_size side2 then a0_size side2
      then none

  -- every number that is written fits 32 bits
  pub net_size : (j : ℕ) → WrittenSize (get_or (net K c) j (pos 0))
  net_size j = all_at (net K c) all_small j
