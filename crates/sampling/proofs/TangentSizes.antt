-- The numbers of tangents lie within -2^42 to 2^42: the differences of control points lie within 2^28, the weights sum to N^3, and N is at most 16.
use mathlib.Core.Path.{◌≡◌, sym, ap, ◌∙◌, subst}
use mathlib.Core.List.{List}
use Prim.Native.Nat.{ℕ, zero, suc, ◌+◌, ◌-◌, ◌*◌, ◌^◌, ◌≤◌, ◌<◌}
use native.Mathlib.Nat.{le_trans, mul-le-mul_left, pow-le-pow_left}
use native.Mathlib.Omega.{arith}
use lib.Dec.{lit≤}
use lib.ListN.{get_or}
use lib.IntN.{ℤ, pos, neg_ℤ, nat_abs, ◌+ℤ◌, ◌-ℤ◌, ◌*ℤ◌}
use lib.Signed.{◌≤ℤ◌}
use Rattle.paper.specs.Faults.{sound, done}
use Rattle.paper.specs.Net.{Side}
use Rattle.paper.specs.Floats.{net_verdict}
use Rattle.paper.specs.Sampling.{control, Weights, on_axis, side_at, side_number}
use Rattle.paper.specs.Tangents as paper
use Rattle.paper.specs.Tangents.{along, inward, tangent_along, tangent_inward, tangent_pair, TangentsSampled}
use Rattle.numbers.proofs.Diff.{as_diff, diff}
use Rattle.numbers.proofs.Poly.{over, poly}
use Rattle.numbers.proofs.Laws.{mul_le, nonneg, abs_mul_le}
use Rattle.bernstein.specs.Sums.{linear, quadratic, cubic}
use Rattle.bernstein.proofs.Laws.{abs_bounds, bounds_abs}
use Rattle.bernstein.proofs.Sum.{power, power_is, sum_le, less, more}
use Rattle.bernstein.proofs.Derivative.{sum_is}
use Rattle.sampling.proofs.Laws.{net_passed, few_parts, parts_sum, control_size}
use Rattle.bernstein.proofs.Samples.{side_back}

-- ---- the cubic sum of numbers within B: the weights are not negative, and sum to N^3
cubes_le : (D E : ℕ → ℕ → ℤ) (i j k : ℕ) → ((n m : ℕ) → n + m ≤ 3 → D n m ≤ℤ E n m) → paper.cubic_bernstein_sum D i j k ≤ℤ paper.cubic_bernstein_sum E i j k
unfolding paper.cubic_bernstein_sum
cubes_le D E i j k h =
    sum_le _ _ 4 (λ n a. sum_le _ _ (4 - n) (λ m b. mul_le (pos (paper.cubic_bernstein i j k (3 - n - m) m n)) (D n m) (E n m) (nonneg _) (h n m (omega arith))))

same_cubes : (v i j k : ℤ)
    → cubic v v v v i j +ℤ pos 3 *ℤ k *ℤ quadratic v v v i j +ℤ pos 3 *ℤ k *ℤ k *ℤ linear v v i j +ℤ k *ℤ k *ℤ k *ℤ v ≡ power (i +ℤ j +ℤ k) 3 *ℤ v
same_cubes = over 4 _ λ ρ. simp (poly, ρ) (omega arith)

all_same : (v : ℤ) (i j k : ℕ) → paper.cubic_bernstein_sum (λ n m. v) i j k ≡ pos ((i + j + k) ^ 3) *ℤ v
all_same v i j k = sum_is (λ n m. v) i j k ∙ same_cubes v (pos i) (pos j) (pos k) ∙ ap (λ (z : ℤ). z *ℤ v) (sym (power_is (i + j + k) 3))

cubes_size : (D : ℕ → ℕ → ℤ) (i j k B : ℕ) → ((n m : ℕ) → n + m ≤ 3 → nat_abs (D n m) ≤ B) → nat_abs (paper.cubic_bernstein_sum D i j k) ≤ B * (i + j + k) ^ 3
cubes_size D i j k B h =
    bounds_abs (paper.cubic_bernstein_sum D i j k) (B * (i + j + k) ^ 3)
    (subst (λ (z : ℤ). z ≤ℤ paper.cubic_bernstein_sum D i j k) (all_same (neg_ℤ (pos B)) i j k ∙ less (pos ((i + j + k) ^ 3)) (pos B))
    (cubes_le (λ n m. neg_ℤ (pos B)) D i j k (λ n m l. (abs_bounds (D n m) B (h n m l)).0)))
    (subst (λ (z : ℤ). paper.cubic_bernstein_sum D i j k ≤ℤ z) (all_same (pos B) i j k ∙ more (pos ((i + j + k) ^ 3)) (pos B))
    (cubes_le D (λ n m. pos B) i j k (λ n m l. (abs_bounds (D n m) B (h n m l)).1)))

difference_size : (a b : ℤ) (B : ℕ) → nat_abs a ≤ B → nat_abs b ≤ B → nat_abs (a -ℤ b) ≤ 2 * B
difference_size a b B = as_diff a λ p n e. as_diff b λ q m f. simp (diff, e, f) (λ g h. omega arith)

-- ---- the six numbers of a net that passes 18 and 19
module _ (numbers : List ℤ) (e : net_verdict numbers ≡ sound) (s : Side) (w : Weights) (q : w.head + w.tail + w.centre ≡ w.parts) (few : w.parts ≤ 16) where
  point_size : (axis : ℕ) → axis < 3 → (n m : ℕ) → n + m ≤ 4 → nat_abs (control (on_axis numbers axis) s n m) ≤ 2 ^ 27
  point_size axis h n m l =
      subst (λ (t : Side). nat_abs (control (on_axis numbers axis) t n m) ≤ 2 ^ 27) (side_back s) (control_size numbers e (side_number s) axis h n m l)

  fourfold : (D : ℕ → ℕ → ℤ) → ((n m : ℕ) → n + m ≤ 3 → nat_abs (D n m) ≤ 2 ^ 28)
      → nat_abs (pos 4 *ℤ paper.cubic_bernstein_sum D w.head w.tail w.centre) ≤ 2 ^ 42
  fourfold D b =
      let few-sum : w.head + w.tail + w.centre ≤ 16 = omega (arith, q, few) in
      let cubes : (w.head + w.tail + w.centre) ^ 3 ≤ 16 ^ 3 = pow-le-pow_left few-sum 3 in
      let sum = cubes_size D w.head w.tail w.centre (2 ^ 28) b in
      le_trans (abs_mul_le (pos 4) (paper.cubic_bernstein_sum D w.head w.tail w.centre) 4 (2 ^ 28 * 16 ^ 3) (lit≤ tt) (le_trans sum (mul-le-mul_left (2 ^ 28) cubes)))
      (lit≤ tt)

  along_size : (axis : ℕ) → axis < 3 → nat_abs (tangent_along numbers s w axis) ≤ 2 ^ 42
  unfolding tangent_along along
  along_size axis h = fourfold (along (on_axis numbers axis) s) (λ n m l.
      difference_size (control (on_axis numbers axis) s n (m + 1)) (control (on_axis numbers axis) s n m) (2 ^ 27)
      (point_size axis h n (m + 1) (omega arith)) (point_size axis h n m (omega arith)))

  inward_size : (axis : ℕ) → axis < 3 → nat_abs (tangent_inward numbers s w axis) ≤ 2 ^ 42
  unfolding tangent_inward inward
  inward_size axis h = fourfold (inward (on_axis numbers axis) s) (λ n m l.
      difference_size (control (on_axis numbers axis) s (n + 1) m) (control (on_axis numbers axis) s n m) (2 ^ 27)
      (point_size axis h (n + 1) m (omega arith)) (point_size axis h n m (omega arith)))

  pub pair_within : (k : ℕ) → k < 6 → nat_abs (get_or (tangent_pair numbers s w) k (pos 0)) ≤ 2 ^ 42
  unfolding tangent_pair
  pair_within zero h = along_size 0 (omega arith)
  pair_within (suc zero) h = along_size 1 (omega arith)
  pair_within (suc (suc zero)) h = along_size 2 (omega arith)
  pair_within (suc (suc (suc zero))) h = inward_size 0 (omega arith)
  pair_within (suc (suc (suc (suc zero)))) h = inward_size 1 (omega arith)
  pair_within (suc (suc (suc (suc (suc zero))))) h = inward_size 2 (omega arith)
  pair_within (suc (suc (suc (suc (suc (suc k)))))) h = absurd (omega arith)

-- what the call for one sample leaves
pub sampled_within : (numbers : List ℤ) (side : ℕ) (w : Weights) (old out : List ℤ) → TangentsSampled numbers side w old done out
    → (k : ℕ) → k < 6 → nat_abs (get_or out k (pos 0)) ≤ 2 ^ 42
sampled_within numbers side w old out c k h =
    let e = sym c.answers in
    subst (λ (l : List ℤ). nat_abs (get_or l k (pos 0)) ≤ 2 ^ 42) (sym c.holds)
    (pair_within numbers (net_passed numbers side w.head w.tail w.centre w.parts e) (side_at side) w
    (parts_sum numbers side w.head w.tail w.centre w.parts e) (few_parts numbers side w.head w.tail w.centre w.parts e) k h)
