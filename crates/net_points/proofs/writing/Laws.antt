-- Laws of numbers that are written here and there, of control points in turn, and of the places of rings.
use mathlib.Core.Path.{◌≡◌, refl, sym, ap, ◌∙◌, subst}
use mathlib.Core.Bool.{Bool, true, false}
use mathlib.Core.Logic.{◌⊎◌, inl, inr, ⊎_elim}
use mathlib.Core.List.{List, ◌++◌}
use Prim.Native.Nat.{ℕ, zero, suc, ◌+◌, ◌-◌, ◌*◌, ◌/◌, ◌%◌, ◌^◌, ◌≤◌, ◌<◌}
use native.Mathlib.Nat.{mul-le-mul_right}
use native.Mathlib.Omega.{arith}
use lib.Dec.{ltb, eqb}
use borrow.Author.Tests.{ltb-true, ltb-false, eq-eqb, ne_eqb}
use lib.ListN.{length, get_or, take, drop, length-append, length-take, length-drop}
use lib.Seq.{get_or-drop}
use borrow.Rule.Slice.PartMut.{put_mid}
use Rattle.std.proofs.lemmas.List.{get_or-append_right, get_or_append_left, get_or-take}
use lib.IntN.{ℤ, pos, nat_abs, ◌+ℤ◌, ◌*ℤ◌}
use Rattle.paper.specs.Numbers.{round}
use Rattle.paper.specs.Faults.{sound}
use Rattle.paper.specs.Floats.{net_verdict}
use Rattle.paper.specs.Sampling.{control, on_axis, weights, sample_at, side_at}
use Rattle.paper.specs.Triangles.{turn_weights}
use Rattle.numbers.proofs.Poly.{over, poly}
use Rattle.mesh.proofs.Scans.{ways, compared}
use Rattle.bernstein.specs.declared.Vector5.{Vector5}
use Rattle.bernstein.specs.declared.Matrix5.{Matrix5}
use Rattle.bernstein.specs.Sums.{vector5, linear, quadratic, cubic, quartic, quartic_sum, rows_of, polynomial_of, row_of, polynomial_at, AllSized}
use Rattle.sampling.specs.Grid.{Sampleable, RowSampleable, RowPut}
use Rattle.bernstein.proofs.Sum.{bernstein_is}
use Rattle.bernstein.proofs.Laws.{polynomial_tapers}
use Rattle.sampling.proofs.Laws.{points_sized, points_sampleable}
use Rattle.sampling.proofs.Lists.{row_sampleable, row_part}
use Rattle.net_points.specs.writing.Laid.{Reaches, reversed_of, pick_matrix, turned_of, InTurn}

-- ---- numbers written here and there
module _ {f : ℕ → ℤ} {S : ℕ → Type 0} where
  pub reaches_none : (old : List ℤ) → ((t : ℕ) → S t → ⊥) → Reaches f S old old
  reaches_none old n = record { same = refl; there = λ t s. absurd (n t s); each = λ t. inr refl }

  pub reaches_part : {T : ℕ → Type 0} {old new : List ℤ} → Reaches f S old new → ((t : ℕ) → T t → S t) → Reaches f T old new
  reaches_part r h = record { same = r.same; there = λ t s. r.there t (h t s); each = r.each }

  pub reaches_more : {T : ℕ → Type 0} {old mid new : List ℤ} → Reaches f S old mid → Reaches f T mid new → Reaches f (λ t. S t ⊎ T t) old new
  reaches_more p q = record {
    same = q.same ∙ p.same;
    there = λ t s. ⊎_elim (λ x. ⊎_elim (λ y. y) (λ y. y ∙ p.there t x) (q.each t)) (λ x. q.there t x) s;
    each = λ t. ⊎_elim (λ y. inl y) (λ y. ⊎_elim (λ x. inl (y ∙ x)) (λ x. inr (y ∙ x)) (p.each t)) (q.each t);
  }

-- numbers that are put in the place of as many
module _ (f : ℕ → ℤ) (old part : List ℤ) (at k : ℕ) (long : length part ≡ k) (room : at + k ≤ length old)
    (values : (j : ℕ) → j < k → get_or part j (pos 0) ≡ f (at + j)) where
  abbrev put : List ℤ
  put = put_mid at k old part

  put_inside : (t : ℕ) → at ≤ t → t < at + k → get_or put t (pos 0) ≡ f t
  put_inside t a b =
      get_or-append_right (take at old) (part ++ drop k (drop at old)) at t (pos 0) (simp length-take (omega arith)) a
      ∙ get_or_append_left part (drop k (drop at old)) (pos 0) (t - at) (omega arith)
      ∙ values (t - at) (omega arith) ∙ ap f (let z : at + (t - at) ≡ t = omega arith in z)

  put_before : (t : ℕ) → t < at → get_or put t (pos 0) ≡ get_or old t (pos 0)
  put_before t h =
      get_or_append_left (take at old) (part ++ drop k (drop at old)) (pos 0) t (simp length-take (omega arith)) ∙ get_or-take at old t (pos 0) h

  put_after : (t : ℕ) → at + k ≤ t → get_or put t (pos 0) ≡ get_or old t (pos 0)
  put_after t h =
      get_or-append_right (take at old) (part ++ drop k (drop at old)) at t (pos 0) (simp length-take (omega arith)) (omega arith)
      ∙ get_or-append_right part (drop k (drop at old)) k (t - at) (pos 0) long (omega arith)
      ∙ get_or-drop k (drop at old) (t - at - k) (pos 0) ∙ get_or-drop at old (k + (t - at - k)) (pos 0)
      ∙ ap (λ (x : ℕ). get_or old x (pos 0)) (let z : at + (k + (t - at - k)) ≡ t = omega arith in z)

  pub part_reaches : Reaches f (λ t. (at ≤ t) × (t < at + k)) old put
  part_reaches = record {
    same = simp (length-append, length-take, length-drop) (omega arith);
    there = λ t s. put_inside t s.0 s.1;
    each = λ t.
        ⊎_elim (λ l. inr (put_before t (ltb-true t at l)))
        (λ l. ⊎_elim (λ m. inl (put_inside t (ltb-false t at l) (ltb-true t (at + k) m))) (λ m. inr (put_after t (ltb-false t (at + k) m)))
        (ways (ltb t (at + k))))
        (ways (ltb t at));
  }

-- ---- a row
module _ {e : Vector5} {n first count from : ℕ} {old new : List ℤ} (r : RowPut e n first count from old new) (f : ℕ → ℤ)
    (aim : (j : ℕ) → j < count → f (from + 3 * j) ≡ round (polynomial_at e (first + j)) (pos (n ^ 4))) where
  at_place : (t j : ℕ) → j < count → t ≡ from + 3 * j → get_or new t (pos 0) ≡ f t
  at_place t j h q = subst (λ (x : ℕ). get_or new x (pos 0) ≡ f x) (sym q) (r.values j h ∙ sym (aim j h))

  pub row_reaches : Reaches f (λ t. (j : ℕ) × (j < count) × (t ≡ from + 3 * j)) old new
  row_reaches = record {
    same = r.same;
    there = λ t s. at_place t s.0 s.1 s.2;
    each = λ t.
        let j = (t - from) / 3 in
        ⊎_elim
        (λ (q : t ≡ from + 3 * ((t - from) / 3)). ⊎_elim
        (λ l. inl (at_place t ((t - from) / 3) (ltb-true ((t - from) / 3) count l) q))
        (λ l. let b = ltb-false ((t - from) / 3) count l in inr (r.others t (λ i o z. omega arith)))
        (ways (ltb ((t - from) / 3) count)))
        (λ o. inr (r.others t (λ i l z. ⊎_elim (λ x. omega arith) (λ x. omega arith) o)))
        (compared t (from + 3 * ((t - from) / 3)));
  }

-- ---- rows from their other ends: head and tail change places
pub linear_back : (a b x y : ℤ) → linear b a x y ≡ linear a b y x
linear_back = over 4 _ λ ρ. simp poly (omega arith)

pub quadratic_back : (a b c x y : ℤ) → quadratic c b a x y ≡ quadratic a b c y x
quadratic_back = over 5 _ λ ρ. simp (poly, ρ) (omega arith)

pub cubic_back : (a b c d x y : ℤ) → cubic d c b a x y ≡ cubic a b c d y x
cubic_back = over 6 _ λ ρ. simp (poly, ρ) (omega arith)

quartic_back : (a b c d e x y : ℤ) → quartic (vector5 e d c b a) x y ≡ quartic (vector5 a b c d e) y x
quartic_back = over 7 _ λ ρ. simp (poly, ρ) (omega arith)

pub sum_back : (p : Matrix5) (i j k : ℤ) → quartic_sum (reversed_of p) i j k ≡ quartic_sum p j i k
unfolding quartic_sum reversed_of
sum_back p i j k = λ z.
    quartic_back p.r0.a p.r0.b p.r0.c p.r0.d p.r0.e i j z +ℤ pos 4 *ℤ k *ℤ cubic_back p.r1.a p.r1.b p.r1.c p.r1.d i j z
    +ℤ pos 6 *ℤ k *ℤ k *ℤ quadratic_back p.r2.a p.r2.b p.r2.c i j z +ℤ pos 4 *ℤ k *ℤ k *ℤ k *ℤ linear_back p.r3.a p.r3.b i j z
    +ℤ k *ℤ k *ℤ k *ℤ k *ℤ p.r4.a

sized_back : (B : ℕ) (p : Matrix5) → nat_abs (pos 0) ≤ B → AllSized B p → AllSized B (reversed_of p)
unfolding reversed_of
sized_back B p z ((a, b, c, d, e), (f, g, h, i, _), (j, k, l, _, _), (m, n, _, _, _), (o, _, _, _, _)) =
    ((e, d, c, b, a), (i, h, g, f, z), (l, k, j, z, z), (n, m, z, z, z), (o, z, z, z, z))

sampleable_back : (p : Matrix5) (n : ℕ) → Sampleable p n → Sampleable (reversed_of p) n
sampleable_back p n s = record {
  sized = sized_back (2 ^ 27) p (omega arith) s.sized;
  some = s.some;
  few = s.few;
  small = λ i j k e.
      subst (λ (z : ℤ). nat_abs z ≤ 2 ^ 27 * n ^ 4) (sym (sum_back p (pos i) (pos j) (pos k))) (s.small j i k (let q : j + i + k ≡ n = omega arith in q));
}

-- ---- the weights at a place, by the side's number
pub even_weights : (side n k j : ℕ) → side ≤ 3 → (side % 2 ≡ 1 → ⊥) → turn_weights (side_at side) n k j ≡ weights (n - k - j) j k n
even_weights zero n k j h o = refl
even_weights (suc zero) n k j h o = absurd (o refl)
even_weights (suc (suc zero)) n k j h o = refl
even_weights (suc (suc (suc s))) n k j h o = absurd (o (let z : suc (suc (suc s)) % 2 ≡ 1 = omega arith in z))

pub odd_weights : (side n k j : ℕ) → side ≤ 3 → side % 2 ≡ 1 → turn_weights (side_at side) n k j ≡ weights j (n - k - j) k n
odd_weights zero n k j h o = absurd (omega arith)
odd_weights (suc zero) n k j h o = refl
odd_weights (suc (suc zero)) n k j h o = absurd (omega arith)
odd_weights (suc (suc (suc s))) n k j h o = refl

-- ---- the control points of a side in turn
module _ (numbers : List ℤ) (e : net_verdict numbers ≡ sound) (side axis : ℕ) (a : axis < 3) where
  abbrev controls : Matrix5
  controls = rows_of (control (on_axis numbers axis) (side_at side))

  sum_sample : (i j k n : ℕ) → round (quartic_sum controls (pos i) (pos j) (pos k)) (pos (n ^ 4)) ≡ sample_at numbers (side_at side) (weights i j k n) axis
  unfolding sample_at
  sum_sample i j k n = ap (λ (z : ℤ). round z (pos (n ^ 4))) (sym (bernstein_is (on_axis numbers axis) (side_at side) i j k))

  pub turn_even : side ≤ 3 → (side % 2 ≡ 1 → ⊥) → (p : Matrix5) → p ≡ controls → InTurn numbers side axis p
  unfolding turned_of
  turn_even h o p q =
      subst (λ (r : Matrix5). InTurn numbers side axis r) (sym q) (record {
        points = rw (ne_eqb (side % 2) 1 o);
        sampleable = λ n l f. points_sampleable numbers e side axis a n l f;
        samples = λ n k j l.
            sum_sample (n - k - j) j k n ∙ ap (λ w. sample_at numbers (side_at side) w axis) (sym (even_weights side n k j h o));
      })

  pub turn_odd : side ≤ 3 → side % 2 ≡ 1 → (p r : Matrix5) → p ≡ controls → r ≡ reversed_of p → InTurn numbers side axis r
  unfolding turned_of
  turn_odd h o p r q t =
      subst (λ (r : Matrix5). InTurn numbers side axis r) (sym (t ∙ ap reversed_of q)) (record {
        points = rw (eq-eqb (side % 2) 1 o);
        sampleable = λ n l f. sampleable_back controls n (points_sampleable numbers e side axis a n l f);
        samples = λ n k j l.
            ap (λ (z : ℤ). round z (pos (n ^ 4))) (sum_back controls (pos (n - k - j)) (pos j) (pos k))
            ∙ sum_sample j (n - k - j) k n ∙ ap (λ w. sample_at numbers (side_at side) w axis) (sym (odd_weights side n k j h o));
      })

pub turned_size : (numbers : List ℤ) → net_verdict numbers ≡ sound → (side axis : ℕ) → axis < 3 → AllSized (2 ^ 27) (turned_of numbers side axis)
unfolding turned_of
turned_size numbers e side axis a = picked (eqb (side % 2) 1)
  where
    controls_sized : AllSized (2 ^ 27) (rows_of (control (on_axis numbers axis) (side_at side)))
    controls_sized = points_sized numbers e side axis a

    picked : (b : Bool) → AllSized (2 ^ 27) (let p = rows_of (control (on_axis numbers axis) (side_at side)) in pick_matrix b (reversed_of p) p)
    picked true = sized_back (2 ^ 27) _ (omega arith) controls_sized
    picked false = controls_sized

-- ---- what can be put of a border's row, and of a ring's
pub curve_sampleable : (p : Matrix5) (m : ℕ) → Sampleable p m → (e : Vector5) → e ≡ row_of (polynomial_of p (pos m)) 0 → RowSampleable e m 1 (m - 1)
curve_sampleable p m s e is =
    row_part (row_sampleable p m 0 (omega arith) s (polynomial_tapers p m s.sized s.few) e is) 1 (m - 1) (omega arith) (omega (arith, s.some))

pub spoke_sampleable : (p : Matrix5) (n k w : ℕ) → k + 1 < n → w ≡ n - suc k → Sampleable p n → (e : Vector5) → e ≡ row_of (polynomial_of p (pos n)) (suc k)
    → RowSampleable e n 0 w
spoke_sampleable p n k w h q s e is =
    row_part (row_sampleable p n (suc k) (omega arith) s (polynomial_tapers p n s.sized s.few) e is) 0 w (omega arith) (omega arith)

-- ---- the rings of a side
-- the places of its row on one stay within the ring
pub sides_room : (side w : ℕ) → side < 4 → side * w + w ≤ 4 * w
sides_room side w h = let l : side ≤ 3 = omega arith in let m : side * w ≤ 3 * w = mul-le-mul_right w l in omega arith

-- they stay within the rings' places
pub ring_room : (n k side : ℕ) → k + 1 < n → side ≤ 3 → 2 * (k * (2 * n - k - 1)) + side * (n - k - 1) + (n - k - 1) ≤ 2 * (n * (n - 1))
ring_room n k side h l = go (n - k - 2) (omega arith)
  where
    go : (v : ℕ) → n ≡ k + 2 + v → 2 * (k * (2 * n - k - 1)) + side * (n - k - 1) + (n - k - 1) ≤ 2 * (n * (n - 1))
    go v e =
        let a : 2 * n - k - 1 ≡ k + 3 + 2 * v = omega arith in let c : n - k - 1 ≡ v + 1 = omega arith in
        let d : n - 1 ≡ k + 1 + v = omega arith in
        rw (a, c, d) (rw e (let s = sides_room side (v + 1) (omega arith) in let z : 2 * (k * (k + 3 + 2 * v)) + side * (v + 1) + (v + 1) ≤ 2 * ((k + 2 + v) * (k + 1 + v)) = omega arith in z))

-- after the last of them the centre stands
pub rings_last : (n k : ℕ) → k + 1 ≡ n → 2 * (k * (2 * n - k - 1)) ≡ 2 * (n * (n - 1))
rings_last n k e =
    let a : 2 * n - k - 1 ≡ k + 1 = omega arith in let b : n - 1 ≡ k = omega arith in
    rw (a, b) (rw (← e) (let z : 2 * (k * (k + 1)) ≡ 2 * ((k + 1) * k) = omega arith in z))
