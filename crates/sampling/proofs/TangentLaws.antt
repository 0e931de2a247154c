-- The tangents: the values of the derivatives are those of the definition, what the call for one sample leaves, and closing along common sides.
use mathlib.Core.Path.{◌≡◌, refl, sym, ap, ◌∙◌, subst}
use mathlib.Core.List.{List, ◌++◌}
use Prim.Native.Nat.{ℕ, ◌+◌, ◌*◌, ◌^◌, ◌≤◌, ◌<◌}
use native.Mathlib.Nat.{mul-zero, le_trans}
use native.Mathlib.Omega.{arith}
use lib.Dec.{lit≤}
use lib.ListN.{take}
use lib.IntN.{ℤ, pos, nat_abs, ◌+ℤ◌, ◌*ℤ◌}
use Rattle.std.specs.Prelude.{Err}
use Rattle.paper.specs.declared.Refusal.{Refusal}
use Rattle.paper.specs.Faults.{Verdict, sound, ◌or_else◌, single, stated, kept, Answer, done}
use Rattle.paper.specs.Numbers.{sum_by}
use Rattle.paper.specs.Net.{Side, across, outer_row}
use Rattle.paper.specs.Floats.{net_verdict, axes}
use Rattle.paper.specs.Borders.{beside}
use Rattle.paper.specs.Sampling.{control, Weights, weights, on_axis, fault33, sample_verdict, side_at, side_number, net_in}
use Rattle.paper.specs.Tangents as paper
use Rattle.paper.specs.Tangents.{tangent_along, tangent_inward, tangent_pair, TangentsSampled}
use Rattle.paper.specs.Claims.{TangentsClose}
use Rattle.numbers.proofs.Diff.{diff, each}
use Rattle.borders.proofs.Theorem.{demand3}
use Rattle.bernstein.specs.declared.Matrix5.{Matrix5}
use Rattle.bernstein.specs.Sums.{AllSized, AllTapered, rows_of, polynomial_of, row_of, polynomial_at}
use Rattle.bernstein.specs.Tangents.{along_rows, inward_rows, cubic_sum, along_of, inward_of}
use Rattle.bernstein.proofs.Derivative.{along_is, inward_is, along_sum, inward_sum}
use Rattle.sampling.specs.Grid.{TangentOn}
use Rattle.bernstein.proofs.Laws.{bits, sized_bits, polynomial_tapers, row_tapers, value_size}
use Rattle.bernstein.proofs.Tapering.{along_tapers, inward_tapers}
use Rattle.sampling.proofs.Laws.{points_sized}
use Rattle.bernstein.proofs.Samples.{side_back}
use Rattle.sampling.proofs.Theorems.{same_answer, verdict_is, outer_at, net_passes}

-- ---- the values of the derivatives
module _ (numbers : List ℤ) (side axis : ℕ) where
  abbrev points : Matrix5
  points = rows_of (control (on_axis numbers axis) (side_at side))

  pub along_value : (i j k n : ℕ) → i + j + k ≡ n
      → polynomial_at (row_of (along_of (polynomial_of points (pos n))) k) j ≡ tangent_along numbers (side_at side) (weights i j k n) axis
  unfolding tangent_along
  along_value i j k n q =
      subst (λ (m : ℕ). polynomial_at (row_of (along_of (polynomial_of points (pos m))) k) j ≡ pos 4 *ℤ cubic_sum (along_rows points) (pos i) (pos j) (pos k)) q
      (along_is points i j k)
      ∙ ap (λ (z : ℤ). pos 4 *ℤ z) (sym (along_sum (on_axis numbers axis) (side_at side) i j k))

  pub inward_value : (i j k n : ℕ) → i + j + k ≡ n
      → polynomial_at (row_of (inward_of (polynomial_of points (pos n))) k) j ≡ tangent_inward numbers (side_at side) (weights i j k n) axis
  unfolding tangent_inward
  inward_value i j k n q =
      subst (λ (m : ℕ). polynomial_at (row_of (inward_of (polynomial_of points (pos m))) k) j ≡ pos 4 *ℤ cubic_sum (inward_rows points) (pos i) (pos j) (pos k)) q
      (inward_is points i j k)
      ∙ ap (λ (z : ℤ). pos 4 *ℤ z) (sym (inward_sum (on_axis numbers axis) (side_at side) i j k))

-- ---- the steps on an axis
module _ (numbers : List ℤ) (e : net_verdict numbers ≡ sound) (side axis : ℕ) (h : axis < 3) (j k n : ℕ) (f : n ≤ 16) (g : j + k ≤ n)
    (p : Matrix5) (is-points : p ≡ points numbers side axis) where
  pub points_fit : AllSized (2 ^ 27) p
  points_fit = subst (λ (q : Matrix5). AllSized (2 ^ 27) q) (sym is-points) (points_sized numbers e side axis h)

  module _ (c : Matrix5) (is : c ≡ polynomial_of p (pos n)) where
    pub tapers : AllTapered c
    tapers = subst (λ (q : Matrix5). AllTapered q) (sym is) (polynomial_tapers p n points_fit f)

    small : (d : Matrix5) → AllTapered d → (v : ℤ) → v ≡ polynomial_at (row_of d k) j → nat_abs v ≤ 2 ^ 62
    small d t v q =
        le_trans (subst (λ (z : ℤ). nat_abs z ≤ 5 * (65536 * (5 * 2 ^ 34))) (sym q) (value_size (row_of d k) j (5 * 2 ^ 34) (omega arith) (row_tapers d k (omega arith) t)))
        (lit≤ tt)

    module _ (d u : Matrix5) (by-tail : d ≡ along_of c) (by-centre : u ≡ inward_of c) (v w : ℤ) (first : v ≡ polynomial_at (row_of d k) j) (second : w ≡ polynomial_at (row_of u k) j) where
      first_small : nat_abs v ≤ 2 ^ 62
      first_small = small d (subst (λ (q : Matrix5). AllTapered q) (sym by-tail) (along_tapers c tapers)) v first

      second_small : nat_abs w ≤ 2 ^ 62
      second_small = small u (subst (λ (q : Matrix5). AllTapered q) (sym by-centre) (inward_tapers c tapers)) w second

      polynomial : c ≡ polynomial_of (points numbers side axis) (pos n)
      polynomial = is ∙ ap (λ (q : Matrix5). polynomial_of q (pos n)) is-points

      pub tangent_on : TangentOn numbers side axis j k n (record { along = bits v; inward = bits w })
      tangent_on =
          let a = sized_bits v (2 ^ 62) first_small (lit≤ tt) in
          let b = sized_bits w (2 ^ 62) second_small (lit≤ tt) in
          record {
            first = λ i q.
                a ∙ first ∙ ap (λ (m : Matrix5). polynomial_at (row_of m k) j) (by-tail ∙ ap along_of polynomial) ∙ along_value numbers side axis i j k n q;
            second = λ i q.
                b ∙ second ∙ ap (λ (m : Matrix5). polynomial_at (row_of m k) j) (by-centre ∙ ap inward_of polynomial) ∙ inward_value numbers side axis i j k n q;
            first_size = subst (λ (z : ℤ). nat_abs z ≤ 2 ^ 62) (sym a) first_small;
            second_size = subst (λ (z : ℤ). nat_abs z ≤ 2 ^ 62) (sym b) second_small;
          }

-- ---- what the call for one sample leaves
pub pair_is : (numbers : List ℤ) (s : Side) (w : Weights) (a b c d e f : ℤ) → a ≡ tangent_along numbers s w 0 → b ≡ tangent_along numbers s w 1
    → c ≡ tangent_along numbers s w 2 → d ≡ tangent_inward numbers s w 0 → e ≡ tangent_inward numbers s w 1 → f ≡ tangent_inward numbers s w 2
    → axes a b c ++ axes d e f ≡ tangent_pair numbers s w
unfolding tangent_pair
pair_is numbers s w a b c d e f p q r t u v = rw (p, q, r, t, u, v)

module _ (numbers : List ℤ) (side : ℕ) (w : Weights) (old : List ℤ) where
  pub tangents_refused : (a : Answer) → stated a ≡ sample_verdict numbers side w → (r : Refusal) → a ≡ Err r
      → TangentsSampled numbers side w old (Err r) old
  tangents_refused a e r q = record { answers = sym (ap stated q) ∙ e; holds = refl }

  pub tangents_done : (out : List ℤ) → sample_verdict numbers side w ≡ sound → out ≡ tangent_pair numbers (side_at side) w
      → TangentsSampled numbers side w old done out
  tangents_done out e h = record { answers = sym e; holds = h }

-- ---- closing: at k = 0 the sum takes the outer row only
zero_times : (x : ℤ) → pos 0 *ℤ x ≡ pos 0
zero_times x = each (λ z. pos 0 *ℤ z ≡ pos 0) (λ a a'. simp diff (omega arith)) x

-- with k = 0 the rows after the first count nothing
none1 : (i j l m : ℕ) (x : ℤ) → pos (paper.cubic_bernstein i j 0 l m 1) *ℤ x ≡ pos 0
unfolding paper.cubic_bernstein
none1 i j l m x = simp mul-zero (zero_times x)

none2 : (i j l m : ℕ) (x : ℤ) → pos (paper.cubic_bernstein i j 0 l m 2) *ℤ x ≡ pos 0
unfolding paper.cubic_bernstein
none2 i j l m x = simp mul-zero (zero_times x)

none3 : (i j l m : ℕ) (x : ℤ) → pos (paper.cubic_bernstein i j 0 l m 3) *ℤ x ≡ pos 0
unfolding paper.cubic_bernstein
none3 i j l m x = simp mul-zero (zero_times x)

module _ (d : ℕ → ℕ → ℤ) (i j : ℕ) where
  -- the sum of the outer row
  outer_sum : ℤ
  outer_sum =
      pos 0 +ℤ pos (paper.cubic_bernstein i j 0 3 0 0) *ℤ d 0 0 +ℤ pos (paper.cubic_bernstein i j 0 2 1 0) *ℤ d 0 1 +ℤ pos (paper.cubic_bernstein i j 0 1 2 0) *ℤ d 0 2
      +ℤ pos (paper.cubic_bernstein i j 0 0 3 0) *ℤ d 0 3

  on_side : paper.cubic_bernstein_sum d i j 0 ≡ pos 0 +ℤ outer_sum +ℤ (pos 0 +ℤ pos 0 +ℤ pos 0 +ℤ pos 0) +ℤ (pos 0 +ℤ pos 0 +ℤ pos 0) +ℤ (pos 0 +ℤ pos 0)
  unfolding paper.cubic_bernstein_sum sum_by outer_sum
  on_side = λ z.
      pos 0 +ℤ outer_sum +ℤ (pos 0 +ℤ none1 i j 2 0 (d 1 0) z +ℤ none1 i j 1 1 (d 1 1) z +ℤ none1 i j 0 2 (d 1 2) z)
      +ℤ (pos 0 +ℤ none2 i j 1 0 (d 2 0) z +ℤ none2 i j 0 1 (d 2 1) z) +ℤ (pos 0 +ℤ none3 i j 0 0 (d 3 0) z)

side_sum : (p q : ℕ → ℤ) (s t : Side) (i j : ℕ) → ((m : ℕ) → m < 5 → outer_row p s m ≡ outer_row q t m)
    → paper.cubic_bernstein_sum (paper.along p s) i j 0 ≡ paper.cubic_bernstein_sum (paper.along q t) i j 0
unfolding outer_sum paper.along
side_sum p q s t i j h =
    on_side (paper.along p s) i j ∙ cc (h 0 (omega arith), h 1 (omega arith), h 2 (omega arith), h 3 (omega arith), h 4 (omega arith))
    ∙ sym (on_side (paper.along q t) i j)

side_tangent : (net other : List ℤ) (s t : Side) (i j N axis : ℕ)
    → ((m : ℕ) → m < 5 → outer_row (on_axis net axis) s m ≡ outer_row (on_axis other axis) t m)
    → tangent_along net s (weights i j 0 N) axis ≡ tangent_along other t (weights i j 0 N) axis
unfolding tangent_along
side_tangent net other s t i j N axis h = ap (λ (z : ℤ). pos 4 *ℤ z) (side_sum (on_axis net axis) (on_axis other axis) s t i j h)

same_axes : (a b c d e f : ℤ) → a ≡ d → b ≡ e → c ≡ f → axes a b c ≡ axes d e f
same_axes a b c d e f p q r = rw (p, q, r)

-- the first three of what a call that is done leaves
left : (numbers : List ℤ) (s : Side) (w : Weights) (old out : List ℤ) (r : Answer) → TangentsSampled numbers (side_number s) w old r out → r ≡ done
    → take 3 out ≡ axes (tangent_along numbers s w 0) (tangent_along numbers s w 1) (tangent_along numbers s w 2)
unfolding tangent_pair
left numbers s w old out r c e =
    ap (take 3)
    (c.holds ∙ ap (λ (a : Answer). kept (stated a) (tangent_pair numbers (side_at (side_number s)) w) old) e
    ∙ ap (λ (x : Side). tangent_pair numbers x w) (side_back s))

pub tangents_close : TangentsClose
tangents_close M A B wA wB c s hA hB i j N old old' out out' r r' f g =
    let d = beside M c s in
    let w = weights i j 0 N in
    let v : stated r ≡ stated r' =
    f.answers ∙ verdict_is (net_in A c) s w
    ∙ ap (λ (x : Verdict). x or_else single 33 (fault33 w) N) (net_passes M A wA c hA ∙ sym (net_passes M B wB d hB))
    ∙ sym (g.answers ∙ verdict_is (net_in B d) (across s) w) in
    let a = same_answer r r' v in
    let along : (axis : ℕ) → axis < 3 → tangent_along (net_in A c) s w axis ≡ tangent_along (net_in B d) (across s) w axis =
    λ axis l. side_tangent (net_in A c) (net_in B d) s (across s) i j N axis
    (λ m h. outer_at A c axis l s m h ∙ (demand3 M A B wA wB c s hA hB axis l).curve m h ∙ sym (outer_at B d axis l (across s) m h)) in (
      a,
      λ e. left (net_in A c) s w old out r f e ∙ same_axes _ _ _ _ _ _ (along 0 (omega arith)) (along 1 (omega arith)) (along 2 (omega arith))
          ∙ sym (left (net_in B d) (across s) w old' out' r' g (sym a ∙ e)),
    )
