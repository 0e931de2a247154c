-- One refined face: where its ring starts does not matter, and how far three neighbouring face points are from the rule of the cosine table.
-- Of rounding it is used that it is off by at most half; of the table its fourth rule, that C(m,1) is not below -1/2, and that row 4 is exact.
use mathlib.Core.Path.{◌≡◌, sym, ap, ◌∙◌}
use mathlib.Core.Logic.{⊎_elim}
use Prim.Native.Nat.{ℕ, zero, suc, ◌+◌, ◌-◌, ◌*◌, ◌^◌, ◌<◌, ◌≤◌}
use native.Mathlib.Omega.{arith}
use lib.IntN.{ℤ, pos, ◌+ℤ◌, ◌-ℤ◌, ◌*ℤ◌, neg_ℤ, nat_abs}
use lib.Signed.{◌<ℤ◌, ◌≤ℤ◌}
use Rattle.paper.specs.Mesh.{least_sides, most_sides}
use Rattle.paper.specs.Numbers.{sum, sum_by, round, rounded}
use Rattle.paper.specs.Cosines.{unit, cosine, rest}
use Rattle.paper.specs.Face.{weight, centre, toward}
use Rattle.numbers.proofs.Poly.{over, poly}
use Rattle.numbers.proofs.Diff.{diff}
use Rattle.numbers.proofs.Laws.{abs_mul_le, mul_comm, mul_le, lt_or_ge, nonneg}
use Rattle.numbers.proofs.Sum.{sum_same, sum_abs, cycle, cycle_one, Cyclic}
use Rattle.numbers.specs.WithinHalf.{WithinHalf}
use Rattle.numbers.proofs.Nearest.{round_within_half}
use Rattle.numbers.proofs.Rules.{rules, period, cosine_size, bottom, exact, quarter}
use Rattle.surface.proofs.Within.{Within, within_times, within_cancel, abs_within, positive}

-- ---- the sum with each point before its weight
pub toward_is : (p : ℕ → ℤ) (m i : ℕ) → toward rounded p m i ≡ round (sum (λ k. p (i + k) *ℤ weight m k) m) (pos (3 * unit) *ℤ pos m)
unfolding toward
toward_is p m i =
    ap (λ (z : ℤ). round z (pos (3 * unit) *ℤ pos m))
    (sum_same (λ k. weight m k *ℤ p (i + k)) (λ k. p (i + k) *ℤ weight m k) m (λ k l. mul_comm (weight m k) (p (i + k))))

-- ---- where the ring starts
pub toward_same : (p q : ℕ → ℤ) (m i j : ℕ) → ((k : ℕ) → k < m → p (i + k) ≡ q (j + k)) → toward rounded p m i ≡ toward rounded q m j
unfolding toward
toward_same p q m i j h =
    ap (λ (z : ℤ). round z (pos (3 * unit) *ℤ pos m))
    (sum_same (λ k. weight m k *ℤ p (i + k)) (λ k. weight m k *ℤ q (j + k)) m (λ k l. ap (λ (z : ℤ). weight m k *ℤ z) (h k l)))

pub centre_same : (p q : ℕ → ℤ) (m s : ℕ) → Cyclic p m → ((j : ℕ) → j < m → q j ≡ p (j + s)) → centre rounded q m ≡ centre rounded p m
unfolding centre
centre_same p q m s cyc h = ap (λ (z : ℤ). round z (pos m)) (sum_same q (λ j. p (j + s)) m h ∙ cycle p m cyc s)

-- ---- each is the rounding of its sum
gather : (ℕ → ℤ) → ℕ → ℕ → ℤ
gather p m i = sum (λ k. p (i + k) *ℤ weight m k) m

pub toward_within_half : (p : ℕ → ℤ) (m i : ℕ) → 0 < m → WithinHalf (sum (λ k. p (i + k) *ℤ weight m k) m) (pos (3 * unit) *ℤ pos m) (toward rounded p m i)
toward_within_half p m i h = rw (toward_is p m i) (round_within_half _ _ (some m h))
  where
    some : (m : ℕ) → 0 < m → pos 0 <ℤ (pos (3 * unit) *ℤ pos m)
    some m h = simp diff (omega arith)

pub centre_within_half : (p : ℕ → ℤ) (m : ℕ) → 0 < m → WithinHalf (sum p m) (pos m) (centre rounded p m)
unfolding centre
centre_within_half p m h = round_within_half _ _ (positive m h)

-- ---- sums
pub weight_period : (m k : ℕ) → weight m (k + m) ≡ weight m k
unfolding weight
weight_period m k = cc (period m k, ap (cosine m) (let z : k + m + (m - 1) ≡ k + (m - 1) + m = omega arith in z), period m (k + (m - 1)))

combine : (f g p q r : ℕ → ℤ) (a b c : ℤ) (n : ℕ) → ((k : ℕ) → r k ≡ a *ℤ (f k +ℤ g k) -ℤ b *ℤ p k -ℤ c *ℤ q k)
    → sum r n ≡ a *ℤ (sum f n +ℤ sum g n) -ℤ b *ℤ sum p n -ℤ c *ℤ sum q n
unfolding sum_by
combine f g p q r a b c zero h = none a b c
  where
    none : (a b c : ℤ) → pos 0 ≡ a *ℤ (pos 0 +ℤ pos 0) -ℤ b *ℤ pos 0 -ℤ c *ℤ pos 0
    none = over 3 _ λ ρ. simp (poly, ρ) (omega arith)
combine f g p q r a b c (suc n) h =
    more a b c (sum f n) (sum g n) (sum p n) (sum q n) (sum r n) (f n) (g n) (p n) (q n) (r n) (combine f g p q r a b c n h) (h n)
  where
    more : (a b c sf sg sp sq sr f g p q r : ℤ) → sr ≡ a *ℤ (sf +ℤ sg) -ℤ b *ℤ sp -ℤ c *ℤ sq → r ≡ a *ℤ (f +ℤ g) -ℤ b *ℤ p -ℤ c *ℤ q
        → sr +ℤ r ≡ a *ℤ ((sf +ℤ f) +ℤ (sg +ℤ g)) -ℤ b *ℤ (sp +ℤ p) -ℤ c *ℤ (sq +ℤ q)
    more = over 13 _ λ ρ. simp poly (omega arith)

-- what a point v leaves over by the rests r and s of the recurrence at k and at k - 1
abbrev Left : ℤ → ℤ → ℤ → ℤ
Left v r s = v *ℤ (pos 2 *ℤ r +ℤ pos 2 *ℤ s)

module _ (p : ℕ → ℤ) (m : ℕ) (some : least_sides ≤ m) (cyc : Cyclic p m) (i : ℕ) where
  -- the sums of the face points after and before the i-th, with the ring as the i-th has it
  after : gather p m (i + 1) ≡ sum (λ k. p (i + k) *ℤ weight m (k + (m - 1))) m
  unfolding gather
  after =
      sum_same (λ k. p (i + 1 + k) *ℤ weight m k) (λ k. p (i + (k + 1)) *ℤ weight m (k + 1 + (m - 1))) m
      (λ k l. cc (ap p (let z : i + 1 + k ≡ i + (k + 1) = omega arith in z), ap (weight m) (turn2 k), weight_period m k))
      ∙ cycle_one (λ k. p (i + k) *ℤ weight m (k + (m - 1))) m
      (λ k. cc (ap p (let z : i + (k + m) ≡ i + k + m = omega arith in z), cyc (i + k), ap (weight m) (turn4 k), weight_period m (k + (m - 1))))
    where
      turn2 : (k : ℕ) → k + 1 + (m - 1) ≡ k + m
      turn2 k = omega arith

      turn4 : (k : ℕ) → k + m + (m - 1) ≡ k + (m - 1) + m
      turn4 k = omega arith

  before : gather p m (i + (m - 1)) ≡ sum (λ k. p (i + k) *ℤ weight m (k + 1)) m
  unfolding gather
  before =
      sym (cycle_one (λ k. p (i + (m - 1) + k) *ℤ weight m k) m (λ k. cc (ap p (turn1 k), cyc (i + (m - 1) + k), weight_period m k)))
      ∙ sum_same (λ k. p (i + (m - 1) + (k + 1)) *ℤ weight m (k + 1)) (λ k. p (i + k) *ℤ weight m (k + 1)) m (λ k l. cc (ap p (turn2 k), cyc (i + k)))
    where
      turn1 : (k : ℕ) → i + (m - 1) + (k + m) ≡ i + (m - 1) + k + m
      turn1 k = omega arith

      turn2 : (k : ℕ) → i + (m - 1) + (k + 1) ≡ i + k + m
      turn2 k = omega arith

  total : sum (λ k. p (i + k)) m ≡ sum p m
  total = sum_same (λ k. p (i + k)) (λ k. p (k + i)) m (λ k l. ap p (let z : i + k ≡ k + i = omega arith in z)) ∙ cycle p m cyc i

  left_over : ℕ → ℤ
  left_over k = Left (p (i + k)) (rest m k) (rest m (k + (m - 1)))

  one : (k : ℕ) → left_over k
      ≡ pos unit *ℤ (p (i + k) *ℤ weight m (k + (m - 1)) +ℤ p (i + k) *ℤ weight m (k + 1))
      -ℤ pos (6 * unit) *ℤ (pos unit -ℤ cosine m 1) *ℤ p (i + k)
      -ℤ pos 2 *ℤ cosine m 1 *ℤ (p (i + k) *ℤ weight m k)
  unfolding left_over weight
  one k = rw (ap (cosine m) (let z : k + (m - 1) + 1 ≡ k + m = omega arith in z) ∙ period m k, ap (cosine m) (turn2 k) ∙ period m k)
      (terms (p (i + k)) (cosine m (k + 1)) (cosine m k) (cosine m (k + (m - 1))) (cosine m (k + (m - 1) + (m - 1))) (cosine m 1))
    where
      turn2 : (k : ℕ) → k + 1 + (m - 1) ≡ k + m
      turn2 k = omega arith

      terms : (v a b c d e : ℤ)
          → Left v (pos unit *ℤ (a +ℤ c) -ℤ pos 2 *ℤ e *ℤ b) (pos unit *ℤ (b +ℤ d) -ℤ pos 2 *ℤ e *ℤ c)
          ≡ pos unit *ℤ (v *ℤ (pos (3 * unit) +ℤ pos 2 *ℤ c +ℤ pos 2 *ℤ d) +ℤ v *ℤ (pos (3 * unit) +ℤ pos 2 *ℤ a +ℤ pos 2 *ℤ b))
          -ℤ pos (6 * unit) *ℤ (pos unit -ℤ e) *ℤ v
          -ℤ pos 2 *ℤ e *ℤ (v *ℤ (pos (3 * unit) +ℤ pos 2 *ℤ b +ℤ pos 2 *ℤ c))
      terms = over 6 _ λ ρ. simp (poly, ρ) (omega arith)

  -- what the three sums and the sum of the points leave over
  combined : sum left_over m
      ≡ pos unit *ℤ (gather p m (i + 1) +ℤ gather p m (i + (m - 1)))
      -ℤ pos (6 * unit) *ℤ (pos unit -ℤ cosine m 1) *ℤ sum p m
      -ℤ pos 2 *ℤ cosine m 1 *ℤ gather p m i
  unfolding gather
  combined = rw (after, before, ← total)
      (combine (λ k. p (i + k) *ℤ weight m (k + (m - 1))) (λ k. p (i + k) *ℤ weight m (k + 1)) (λ k. p (i + k)) (λ k. p (i + k) *ℤ weight m k)
      left_over
      (pos unit) (pos (6 * unit) *ℤ (pos unit -ℤ cosine m 1)) (pos 2 *ℤ cosine m 1) m one)

  left_over_size : (R : ℕ) → ((k : ℕ) → nat_abs (rest m k) ≤ R) → ((j : ℕ) → nat_abs (p j) ≤ 2 ^ 24) → nat_abs (sum left_over m) ≤ m * (2 ^ 24 * (4 * R))
  unfolding left_over
  left_over_size R h l =
      sum_abs left_over m (2 ^ 24 * (4 * R))
      (λ k n. abs_mul_le (p (i + k)) (pos 2 *ℤ rest m k +ℤ pos 2 *ℤ rest m (k + (m - 1))) (2 ^ 24) (4 * R) (l (i + k))
      (twice (rest m k) (rest m (k + (m - 1))) (h k) (h (k + (m - 1)))))
    where
      twice : (a b : ℤ) → nat_abs a ≤ R → nat_abs b ≤ R → nat_abs (pos 2 *ℤ a +ℤ pos 2 *ℤ b) ≤ 4 * R
      twice = over 2 _ λ ρ. simp (poly, ρ) (omega arith)

-- ---- from the sums to the rounded points
-- 2^30 (X* + X^) - 2 (2^30 - C) H - 2 C X: how far a face point's two neighbours are from the rule
abbrev pub Defect : ℤ → ℤ → ℤ → ℤ → ℤ → ℤ
Defect C H X X* X^ = pos unit *ℤ (X* +ℤ X^) -ℤ pos 2 *ℤ (pos unit -ℤ C) *ℤ H -ℤ pos 2 *ℤ C *ℤ X

-- M stands for m; F, G, U for the sums of a face point, of the next and of the one before; P for the sum of the points; L for what is left over
abbrev Rounded : ℤ → ℤ → ℤ → ℤ → ℤ → ℤ → ℤ → ℤ → ℤ → ℤ → Type 0
Rounded S3 M C S G U P H X* X^ = WithinHalf G (S3 *ℤ M) X* × WithinHalf U (S3 *ℤ M) X^ × Within ((S -ℤ C) *ℤ (pos 2 *ℤ (M *ℤ H -ℤ P))) ((S -ℤ C) *ℤ M)

core_up : (M C F G U P L H X X* X^ B : ℤ) → Rounded (pos (3 * unit)) M C (pos unit) G U P H X* X^
    → Within (C *ℤ (pos 2 *ℤ (pos (3 * unit) *ℤ M *ℤ X -ℤ F))) (C *ℤ (pos (3 * unit) *ℤ M))
    → L ≡ pos unit *ℤ (G +ℤ U) -ℤ pos (6 * unit) *ℤ (pos unit -ℤ C) *ℤ P -ℤ pos 2 *ℤ C *ℤ F
    → Within L (M *ℤ (pos (3 * unit) *ℤ B))
    → Within (M *ℤ Defect C H X X* X^) (M *ℤ (pos (2 * unit) +ℤ B))
core_up = over 12 _ λ ρ. simp (poly, ρ) (omega arith)

core_down : (M C F G U P L H X X* X^ B : ℤ) → Rounded (pos (3 * unit)) M C (pos unit) G U P H X* X^
    → Within (neg_ℤ C *ℤ (pos 2 *ℤ (pos (3 * unit) *ℤ M *ℤ X -ℤ F))) (neg_ℤ C *ℤ (pos (3 * unit) *ℤ M))
    → L ≡ pos unit *ℤ (G +ℤ U) -ℤ pos (6 * unit) *ℤ (pos unit -ℤ C) *ℤ P -ℤ pos 2 *ℤ C *ℤ F
    → Within L (M *ℤ (pos (3 * unit) *ℤ B))
    → (M *ℤ neg_ℤ (pos (2 ^ 29))) ≤ℤ (M *ℤ C)
    → Within (M *ℤ Defect C H X X* X^) (M *ℤ (pos (3 * unit) +ℤ B))
core_down = over 12 _ λ ρ. simp (poly, ρ) (omega arith)

below_room : (C : ℤ) → nat_abs C ≤ unit → pos 0 ≤ℤ (pos unit -ℤ C)
below_room = over 1 _ λ ρ. simp (poly, ρ) (omega arith)

minus_room : (C : ℤ) → C <ℤ pos 0 → pos 0 ≤ℤ neg_ℤ C
minus_room = over 1 _ λ ρ. simp (poly, ρ) (omega arith)

wider : (D B : ℤ) → Within D (pos (2 * unit) +ℤ B) → Within D (pos (3 * unit) +ℤ B)
wider = over 2 _ λ ρ. simp (poly, ρ) (omega arith)

module _ (M C F G U P L H X X* X^ B : ℤ) (some : pos 0 <ℤ M) (top : nat_abs C ≤ unit)
    (half-X : WithinHalf F (pos (3 * unit) *ℤ M) X) (half-X* : WithinHalf G (pos (3 * unit) *ℤ M) X*) (half-X^ : WithinHalf U (pos (3 * unit) *ℤ M) X^)
    (half-H : WithinHalf P M H)
    (sums : L ≡ pos unit *ℤ (G +ℤ U) -ℤ pos (6 * unit) *ℤ (pos unit -ℤ C) *ℤ P -ℤ pos 2 *ℤ C *ℤ F)
    (left : Within L (M *ℤ (pos (3 * unit) *ℤ B))) where
  all_half : Rounded (pos (3 * unit)) M C (pos unit) G U P H X* X^
  all_half = (half-X*, half-X^, within_times (pos unit -ℤ C) (pos 2 *ℤ (M *ℤ H -ℤ P)) M (below_room C top) half-H)

  -- C not below 0
  up : pos 0 ≤ℤ C → Within (Defect C H X X* X^) (pos (2 * unit) +ℤ B)
  up h =
      within_cancel M (Defect C H X X* X^) (pos (2 * unit) +ℤ B) some
      (core_up M C F G U P L H X X* X^ B all_half
      (within_times C (pos 2 *ℤ (pos (3 * unit) *ℤ M *ℤ X -ℤ F)) (pos (3 * unit) *ℤ M) h half-X) sums left)

  -- C below 0, and not below -1/2
  down : neg_ℤ (pos (2 ^ 29)) ≤ℤ C → pos 0 ≤ℤ M → C <ℤ pos 0 → Within (Defect C H X X* X^) (pos (3 * unit) +ℤ B)
  down low n h =
      within_cancel M (Defect C H X X* X^) (pos (3 * unit) +ℤ B) some
      (core_down M C F G U P L H X X* X^ B all_half
      (within_times (neg_ℤ C) (pos 2 *ℤ (pos (3 * unit) *ℤ M *ℤ X -ℤ F)) (pos (3 * unit) *ℤ M) (minus_room C h) half-X) sums left
      (mul_le M (neg_ℤ (pos (2 ^ 29))) C n low))

  either_way : neg_ℤ (pos (2 ^ 29)) ≤ℤ C → pos 0 ≤ℤ M → Within (Defect C H X X* X^) (pos (3 * unit) +ℤ B)
  either_way low n = ⊎_elim (down low n) (λ h. wider (Defect C H X X* X^) B (up h)) (lt_or_ge C (pos 0))

-- the head's rule: 3 for rounding, and 1/16 for the table
abbrev pub HeadRule : ℤ → ℤ → ℤ → ℤ → ℤ → Type 0
HeadRule C H X X* X^ = Within (Defect C H X X* X^) (pos (3 * unit) +ℤ pos (2 ^ 26))

module _ (p : ℕ → ℤ) (m : ℕ) (some : least_sides ≤ m) (most : m ≤ most_sides) (cyc : Cyclic p m)
    (small : (j : ℕ) → nat_abs (p j) ≤ 2 ^ 24) (i : ℕ) where
  pub head_defect : HeadRule (cosine m 1) (centre rounded p m) (toward rounded p m i) (toward rounded p m (i + 1)) (toward rounded p m (i + (m - 1)))
  unfolding gather
  head_defect =
      let here : 0 < m = omega arith in
      either_way (pos m) (cosine m 1) (gather p m i) (gather p m (i + 1)) (gather p m (i + (m - 1))) (sum p m) (sum (left_over p m some cyc i) m)
      (centre rounded p m) (toward rounded p m i) (toward rounded p m (i + 1)) (toward rounded p m (i + (m - 1))) (pos (2 ^ 26))
      (positive m here) (cosine_size m some most 1)
      (toward_within_half p m i here) (toward_within_half p m (i + 1) here) (toward_within_half p m (i + (m - 1)) here) (centre_within_half p m here)
      (combined p m some cyc i)
      (abs_within (sum (left_over p m some cyc i) m) m (2 ^ 24 * (4 * (3 * unit)))
      (left_over_size p m some cyc i (3 * unit) (rules m some most).recurs small))
      (bottom m some most) (nonneg m)

-- the tail's rule: the row of four sides is exact
abbrev pub TailRule : ℤ → ℤ → ℤ → ℤ → Type 0
TailRule T Y Y* Y^ = Within (Defect (pos 0) T Y Y* Y^) (pos (2 * unit) +ℤ pos 0)

module _ (p : ℕ → ℤ) (cyc : Cyclic p 4) (small : (j : ℕ) → nat_abs (p j) ≤ 2 ^ 24) (i : ℕ) where
  pub tail_defect : TailRule (centre rounded p 4) (toward rounded p 4 i) (toward rounded p 4 (i + 1)) (toward rounded p 4 (i + 3))
  unfolding gather
  tail_defect =
      let some : least_sides ≤ 4 = omega arith in
      let here : 0 < 4 = omega arith in
      let none : (k : ℕ) → nat_abs (rest 4 k) ≤ 0 = λ k. rw (exact k) (omega arith) in
      up (pos 4) (pos 0) (gather p 4 i) (gather p 4 (i + 1)) (gather p 4 (i + 3)) (sum p 4) (sum (left_over p 4 some cyc i) 4)
      (centre rounded p 4) (toward rounded p 4 i) (toward rounded p 4 (i + 1)) (toward rounded p 4 (i + 3)) (pos 0)
      (positive 4 here) (omega arith) (toward_within_half p 4 i here) (toward_within_half p 4 (i + 1) here) (toward_within_half p 4 (i + 3) here) (centre_within_half p 4 here)
      (rw quarter at (combined p 4 some cyc i))
      (abs_within (sum (left_over p 4 some cyc i) 4) 4 0 (left_over_size p 4 some cyc i 0 none small))
      (nonneg 0)
