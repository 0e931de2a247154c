-- The table's lanes: their sizes, their numbers at the next row, and the row of a side's lanes, place by place.
use mathlib.Core.Path.{◌≡◌, sym, ap, ◌∙◌, subst}
use mathlib.Core.List.{List}
use Prim.Native.Nat.{ℕ, zero, suc, ◌+◌, ◌*◌, ◌/◌, ◌%◌, ◌^◌, ◌≤◌, ◌<◌}
use native.Mathlib.Omega.{arith}
use lib.Dec.{lit<, lit≤}
use lib.ListN.{length, get_or}
use lib.IntN.{ℤ, pos, nat_abs, ◌+ℤ◌, ◌*ℤ◌}
use Rattle.numbers.proofs.Laws.{abs_mul_le, abs_add_le}
use Rattle.numbers.proofs.Poly.{over, poly}
use Rattle.bernstein.specs.declared.Matrix5.{Matrix5}
use Rattle.bernstein.specs.declared.Vector5.{Vector5}
use Rattle.bernstein.specs.Sums.{Sized, AllSized, Tapered, AllTapered, row_of, polynomial_at, state_of, states_of, step_of, steps_of, firsts_of}
use Rattle.bernstein.proofs.Identity.{vector5_same, state_step, states_step, firsts_row}
use Rattle.bernstein.proofs.Laws.{tapered_size, state_size}
use Rattle.net_tangents.specs.Lanes.{truncated_of, CubicTapered, forward_of, lane_number, Lanes, Small, Added, state_number, SixStates, CubicRows, rows_at}
use Rattle.net_tangents.proofs.Cubic.{value, row_cubic}

-- ---- sizes
abbrev RowsTaper : Matrix5 → Type 0
RowsTaper m = Tapered (2 ^ 34) m.r0 × Tapered (2 ^ 34) m.r1 × Tapered (2 ^ 34) m.r2 × Tapered (2 ^ 34) m.r3 × Tapered (2 ^ 34) m.r4

module _ (c : Matrix5) (t : AllTapered c) where
  sum2 : (x y : ℤ) (m n r : ℕ) → nat_abs x ≤ m → nat_abs y ≤ n → m + n ≤ r → nat_abs (x +ℤ y) ≤ r
  sum2 x y m n r f g h = omega (arith, abs_add_le x y m n f g)

  forward_tapers : RowsTaper (forward_of c)
  unfolding forward_of
  forward_tapers = (
    (t.t0.0, t.t0.1, t.t0.2, t.t0.3, lit≤ tt),
    (
      sum2 (c.r1.a +ℤ c.r2.a) c.r3.a (65536 * 2 ^ 30 + 65536 * 2 ^ 26) (65536 * 2 ^ 22) _ (abs_add_le c.r1.a c.r2.a _ _ t.t1.0 t.t2.0) t.t3.0 (lit≤ tt),
      sum2 c.r1.b c.r2.b (4096 * 2 ^ 30) (4096 * 2 ^ 26) _ t.t1.1 t.t2.1 (lit≤ tt),
      omega (arith, t.t1.2),
      lit≤ tt,
      lit≤ tt,
    ),
    (
      sum2 (pos 2 *ℤ c.r2.a) (pos 6 *ℤ c.r3.a) (2 * (65536 * 2 ^ 26)) (6 * (65536 * 2 ^ 22)) _
          (abs_mul_le (pos 2) c.r2.a 2 (65536 * 2 ^ 26) (lit≤ tt) t.t2.0) (abs_mul_le (pos 6) c.r3.a 6 (65536 * 2 ^ 22) (lit≤ tt) t.t3.0) (lit≤ tt),
      omega (arith, abs_mul_le (pos 2) c.r2.b 2 (4096 * 2 ^ 26) (lit≤ tt) t.t2.1),
      lit≤ tt,
      lit≤ tt,
      lit≤ tt,
    ),
    (omega (arith, abs_mul_le (pos 6) c.r3.a 6 (65536 * 2 ^ 22) (lit≤ tt) t.t3.0), lit≤ tt, lit≤ tt, lit≤ tt, lit≤ tt),
    (lit≤ tt, lit≤ tt, lit≤ tt, lit≤ tt, lit≤ tt),
  )

  pub forward_size : AllSized (2 ^ 54) (forward_of c)
  forward_size =
      let h = forward_tapers in
      let size : (v : Vector5) → Tapered (2 ^ 34) v → Sized (2 ^ 54) v = λ v h. tapered_size v (2 ^ 34) h (lit≤ tt) in
      (size (forward_of c).r0 h.0, size (forward_of c).r1 h.1, size (forward_of c).r2 h.2, size (forward_of c).r3 h.3, size (forward_of c).r4 h.4)

  pub lane_sizes : (k : ℕ) → k ≤ 16 → AllSized (2 ^ 60) (states_of (forward_of c) k)
  unfolding states_of
  lane_sizes k l =
      let h = forward_tapers in
      let size : (v : Vector5) → Tapered (2 ^ 34) v → Sized (2 ^ 60) (state_of v k) = λ v h. state_size v k (2 ^ 34) l h (lit≤ tt) in
      (size (forward_of c).r0 h.0, size (forward_of c).r1 h.1, size (forward_of c).r2 h.2, size (forward_of c).r3 h.3, size (forward_of c).r4 h.4)

number_size : (m : Matrix5) → AllSized (2 ^ 60) m → (s : ℕ) → s < 10 → nat_abs (lane_number m s) ≤ 2 ^ 60
number_size m h zero l = h.0.0
number_size m h (suc zero) l = h.1.0
number_size m h (suc (suc zero)) l = h.2.0
number_size m h (suc (suc (suc zero))) l = h.3.0
number_size m h (suc (suc (suc (suc zero)))) l = h.0.1
number_size m h (suc (suc (suc (suc (suc zero))))) l = h.1.1
number_size m h (suc (suc (suc (suc (suc (suc zero)))))) l = h.2.1
number_size m h (suc (suc (suc (suc (suc (suc (suc zero))))))) l = h.0.2
number_size m h (suc (suc (suc (suc (suc (suc (suc (suc zero)))))))) l = h.1.2
number_size m h (suc (suc (suc (suc (suc (suc (suc (suc (suc zero))))))))) l = h.0.3
number_size m h (suc (suc (suc (suc (suc (suc (suc (suc (suc (suc s)))))))))) l = absurd (omega arith)

pub table_small : (F : ℕ → Matrix5) (k : ℕ) (table : List ℤ) → Lanes F 0 24 k table → Small table
table_small F k table l = (
  l.long,
  λ i h.
      let q : i ≡ 24 * (i / 24) + i % 24 = omega arith in
      subst (λ (z : ℤ). nat_abs z ≤ 2 ^ 60) (sym (ap (λ (x : ℕ). get_or table x (pos 0)) q ∙ l.holds (i / 24) (i % 24) (omega arith) (omega arith) (omega arith)))
      (number_size (states_of (forward_of (F (i % 24))) k) (lane_sizes (F (i % 24)) (l.smooth (i % 24) (omega arith) (omega arith)).tapers k l.few) (i / 24) (omega arith)),
)

-- ---- the next row
still1 : (x a b c : ℤ) → x +ℤ (pos 0 +ℤ pos 0 *ℤ a +ℤ pos 0 *ℤ b +ℤ pos 0 *ℤ c) ≡ x
still1 = over 4 _ λ ρ. simp (poly, ρ) (omega arith)

still2 : (x a b : ℤ) → x +ℤ (pos 2 *ℤ pos 0 +ℤ pos 0 *ℤ a +ℤ pos 0 *ℤ b) ≡ x
still2 = over 3 _ λ ρ. simp (poly, ρ) (omega arith)

still3 : (x a : ℤ) → x +ℤ (pos 6 *ℤ pos 0 +ℤ pos 0 *ℤ a) ≡ x
still3 = over 2 _ λ ρ. simp (poly, ρ) (omega arith)

still4 : (x : ℤ) → x +ℤ pos 24 *ℤ pos 0 ≡ x
still4 = over 1 _ λ ρ. simp (poly, ρ) (omega arith)

module _ (c : Matrix5) (k : ℕ) where
  abbrev here : Matrix5
  here = states_of (forward_of c) k

  abbrev ahead : Matrix5
  ahead = states_of (forward_of c) (k + 1)

  -- what each number becomes
  abbrev Steps : Type 0
  Steps =
      (lane_number ahead 0 ≡ lane_number here 0 +ℤ lane_number here 4) × (lane_number ahead 1 ≡ lane_number here 1 +ℤ lane_number here 5)
      × (lane_number ahead 2 ≡ lane_number here 2 +ℤ lane_number here 6) × (lane_number ahead 3 ≡ lane_number here 3)
      × (lane_number ahead 4 ≡ lane_number here 4 +ℤ lane_number here 7) × (lane_number ahead 5 ≡ lane_number here 5 +ℤ lane_number here 8)
      × (lane_number ahead 6 ≡ lane_number here 6) × (lane_number ahead 7 ≡ lane_number here 7 +ℤ lane_number here 9)
      × (lane_number ahead 8 ≡ lane_number here 8) × (lane_number ahead 9 ≡ lane_number here 9)

  by : (f : Matrix5 → ℤ) → f ahead ≡ f (steps_of here)
  by f = ap f (sym (states_step (forward_of c) k))

  pub lane_steps : Steps
  unfolding steps_of step_of states_of state_of forward_of
  lane_steps = (
    by (λ m. m.r0.a),
    by (λ m. m.r1.a),
    by (λ m. m.r2.a),
    by (λ m. m.r3.a) ∙ still1 here.r3.a (pos (2 * k + 1)) (pos (3 * (k * k) + 3 * k + 1)) (pos (4 * (k * k * k) + 6 * (k * k) + 4 * k + 1)),
    by (λ m. m.r0.b),
    by (λ m. m.r1.b),
    by (λ m. m.r2.b) ∙ still2 here.r2.b (pos (6 * k + 6)) (pos (12 * (k * k) + 24 * k + 14)),
    by (λ m. m.r0.c),
    by (λ m. m.r1.c) ∙ still3 here.r1.c (pos (24 * k + 36)),
    by (λ m. m.r0.d) ∙ still4 here.r0.d,
  )

-- three sums of the table take it to the next row
module _ (F : ℕ → Matrix5) (k : ℕ) (t t1 t2 t3 : List ℤ) (l : Lanes F 0 24 k t) (a1 : Added 0 72 96 t t1) (a2 : Added 96 144 72 t1 t2)
    (a3 : Added 168 192 48 t2 t3) where
  module _ (y : ℕ) (h : y < 24) where
    abbrev now : ℕ → ℤ
    now s = lane_number (states_of (forward_of (F y)) k) s

    abbrev next : ℕ → ℤ
    next s = lane_number (states_of (forward_of (F y)) (k + 1)) s

    grown : (s q gap : ℕ) → s < 10 → q < 10 → 24 * s + y + gap ≡ 24 * q + y
        → get_or t3 (24 * s + y) (pos 0) ≡ get_or t (24 * s + y) (pos 0) +ℤ get_or t (24 * s + y + gap) (pos 0) → next s ≡ now s +ℤ now q
        → get_or t3 (24 * s + y) (pos 0) ≡ next s
    grown s q gap i j e f g =
        f ∙ (λ z. l.holds s y i (omega arith) h z +ℤ (ap (λ (x : ℕ). get_or t x (pos 0)) e ∙ l.holds q y j (omega arith) h) z) ∙ sym g

    kept : (s : ℕ) → s < 10 → get_or t3 (24 * s + y) (pos 0) ≡ get_or t (24 * s + y) (pos 0) → next s ≡ now s → get_or t3 (24 * s + y) (pos 0) ≡ next s
    kept s i f g = f ∙ l.holds s y i (omega arith) h ∙ sym g

    first : (i : ℕ) → i < 72 → get_or t3 i (pos 0) ≡ get_or t i (pos 0) +ℤ get_or t (i + 96) (pos 0)
    first i b = a3.before i (omega arith) ∙ a2.before i (omega arith) ∙ a1.sums i (omega arith) b

    second : (i : ℕ) → 96 ≤ i → i < 144 → get_or t3 i (pos 0) ≡ get_or t i (pos 0) +ℤ get_or t (i + 72) (pos 0)
    second i b d = a3.before i (omega arith) ∙ a2.sums i b d ∙ (λ z. a1.after i (omega arith) z +ℤ a1.after (i + 72) (omega arith) z)

    third : (i : ℕ) → 168 ≤ i → i < 192 → get_or t3 i (pos 0) ≡ get_or t i (pos 0) +ℤ get_or t (i + 48) (pos 0)
    third i b d =
        a3.sums i b d
        ∙ (λ z. (a2.after i (omega arith) ∙ a1.after i (omega arith)) z +ℤ (a2.after (i + 48) (omega arith) ∙ a1.after (i + 48) (omega arith)) z)

    early : (i : ℕ) → 72 ≤ i → i < 96 → get_or t3 i (pos 0) ≡ get_or t i (pos 0)
    early i b d = a3.before i (omega arith) ∙ a2.before i (omega arith) ∙ a1.after i b

    middle : (i : ℕ) → 144 ≤ i → i < 168 → get_or t3 i (pos 0) ≡ get_or t i (pos 0)
    middle i b d = a3.before i d ∙ a2.after i b ∙ a1.after i (omega arith)

    late : (i : ℕ) → 192 ≤ i → get_or t3 i (pos 0) ≡ get_or t i (pos 0)
    late i b = a3.after i b ∙ a2.after i (omega arith) ∙ a1.after i (omega arith)

    stepped : (s : ℕ) → s < 10 → get_or t3 (24 * s + y) (pos 0) ≡ next s
    stepped zero b = grown 0 4 96 (lit< tt) (lit< tt) (omega arith) (first (24 * 0 + y) (omega arith)) (lane_steps (F y) k).0
    stepped (suc zero) b = grown 1 5 96 (lit< tt) (lit< tt) (omega arith) (first (24 * 1 + y) (omega arith)) (lane_steps (F y) k).1
    stepped (suc (suc zero)) b = grown 2 6 96 (lit< tt) (lit< tt) (omega arith) (first (24 * 2 + y) (omega arith)) (lane_steps (F y) k).2
    stepped (suc (suc (suc zero))) b = kept 3 (lit< tt) (early (24 * 3 + y) (omega arith) (omega arith)) (lane_steps (F y) k).3
    stepped (suc (suc (suc (suc zero)))) b = grown 4 7 72 (lit< tt) (lit< tt) (omega arith) (second (24 * 4 + y) (omega arith) (omega arith)) (lane_steps (F y) k).4
    stepped (suc (suc (suc (suc (suc zero))))) b = grown 5 8 72 (lit< tt) (lit< tt) (omega arith) (second (24 * 5 + y) (omega arith) (omega arith)) (lane_steps (F y) k).5
    stepped (suc (suc (suc (suc (suc (suc zero)))))) b = kept 6 (lit< tt) (middle (24 * 6 + y) (omega arith) (omega arith)) (lane_steps (F y) k).6
    stepped (suc (suc (suc (suc (suc (suc (suc zero))))))) b =
        grown 7 9 48 (lit< tt) (lit< tt) (omega arith) (third (24 * 7 + y) (omega arith) (omega arith)) (lane_steps (F y) k).7
    stepped (suc (suc (suc (suc (suc (suc (suc (suc zero)))))))) b = kept 8 (lit< tt) (late (24 * 8 + y) (omega arith)) (lane_steps (F y) k).8
    stepped (suc (suc (suc (suc (suc (suc (suc (suc (suc zero))))))))) b = kept 9 (lit< tt) (late (24 * 9 + y) (omega arith)) (lane_steps (F y) k).9
    stepped (suc (suc (suc (suc (suc (suc (suc (suc (suc (suc s)))))))))) b = absurd (omega arith)

  pub next_lanes : k < 16 → length t3 ≡ 240 → Lanes F 0 24 (k + 1) t3
  next_lanes m e = record { long = e; few = omega arith; smooth = l.smooth; holds = λ s y b f h. stepped y h s b }

-- ---- the first place of a row
abbrev void : ℤ → ℤ
void x = value (pos 0) (pos 0) (pos 0) (pos 0) (pos 0) x

at_first : (x y : ℤ) → x ≡ x +ℤ pos 0 *ℤ y
at_first = over 2 _ λ ρ. simp (poly, ρ) (omega arith)

at_second : (a b c d e f x : ℤ)
    → value (a +ℤ d +ℤ f) (b +ℤ e) c (pos 0) (pos 0) x
    ≡ value a b c (pos 0) (pos 0) x +ℤ value d e (pos 0) (pos 0) (pos 0) x *ℤ pos 1 +ℤ value f (pos 0) (pos 0) (pos 0) (pos 0) x *ℤ pos 1 +ℤ void x *ℤ pos 1
at_second = over 7 _ λ ρ. simp (poly, ρ) (omega arith)

at_third : (d e f x : ℤ)
    → value (pos 2 *ℤ d +ℤ pos 6 *ℤ f) (pos 2 *ℤ e) (pos 0) (pos 0) (pos 0) x
    ≡ pos 2 *ℤ value d e (pos 0) (pos 0) (pos 0) x +ℤ value f (pos 0) (pos 0) (pos 0) (pos 0) x *ℤ pos 6 +ℤ void x *ℤ pos 14
at_third = over 4 _ λ ρ. simp (poly, ρ) (omega arith)

at_fourth : (f x : ℤ) → value (pos 6 *ℤ f) (pos 0) (pos 0) (pos 0) (pos 0) x ≡ pos 6 *ℤ value f (pos 0) (pos 0) (pos 0) (pos 0) x +ℤ void x *ℤ pos 36
at_fourth = over 2 _ λ ρ. simp (poly, ρ) (omega arith)

at_fifth : (x : ℤ) → void x ≡ pos 24 *ℤ void x
at_fifth = over 1 _ λ ρ. simp (poly, ρ) (omega arith)

abbrev rest : Vector5 → ℤ
rest v = v.b +ℤ pos 0 *ℤ (v.c +ℤ pos 0 *ℤ (v.d +ℤ pos 0 *ℤ v.e))

forward_truncated : (c : Matrix5) (k : ℕ) → row_of (forward_of c) k ≡ state_of (row_of (truncated_of c) k) 0
unfolding row_of forward_of state_of truncated_of polynomial_at
forward_truncated c k =
    vector5_same (at_first (polynomial_at (forward_of c).r0 k) (rest (row_of (truncated_of c) k))) (at_second c.r1.a c.r1.b c.r1.c c.r2.a c.r2.b c.r3.a (pos k)) (at_third c.r2.a c.r2.b c.r3.a (pos k))
    (at_fourth c.r3.a (pos k)) (at_fifth (pos k))

forward_row : (c : Matrix5) (k : ℕ) → CubicTapered c → row_of (forward_of c) k ≡ state_of (row_of c k) 0
forward_row c k h = forward_truncated c k ∙ ap (λ (m : Matrix5). state_of (row_of m k) 0) h.cubic

starts : (c : Matrix5) (k : ℕ) → CubicTapered c → firsts_of (states_of (forward_of c) k) ≡ state_of (row_of c k) 0
starts c k h = firsts_row (forward_of c) k ∙ forward_row c k h

start_number : (c : Matrix5) (k : ℕ) → CubicTapered c → (p : ℕ) → p < 4 → lane_number (states_of (forward_of c) k) p ≡ state_number (state_of (row_of c k) 0) p
unfolding firsts_of
start_number c k h zero l = ap (λ (v : Vector5). v.a) (starts c k h)
start_number c k h (suc zero) l = ap (λ (v : Vector5). v.b) (starts c k h)
start_number c k h (suc (suc zero)) l = ap (λ (v : Vector5). v.c) (starts c k h)
start_number c k h (suc (suc (suc zero))) l = ap (λ (v : Vector5). v.d) (starts c k h)
start_number c k h (suc (suc (suc (suc p)))) l = absurd (omega arith)

pub lanes_start : (F : ℕ → Matrix5) (lane k : ℕ) (table states : List ℤ) → Lanes F lane (lane + 6) k table → length states ≡ 24
    → ((p e : ℕ) → p < 4 → e < 6 → get_or states (6 * p + e) (pos 0) ≡ get_or table (24 * p + (lane + e)) (pos 0)) → SixStates (rows_at F lane k) 0 states
lanes_start F lane k table states l n same = record {
  long = n;
  holds = λ p e a b.
      same p e a b ∙ l.holds p (lane + e) (omega arith) (omega arith) (omega arith)
      ∙ start_number (F (lane + e)) k (l.smooth (lane + e) (omega arith) (omega arith)) p a;
}

pub lanes_cubic : (F : ℕ → Matrix5) (lane k : ℕ) (table : List ℤ) → Lanes F lane (lane + 6) k table → CubicRows (rows_at F lane k)
lanes_cubic F lane k table l e h = row_cubic (F (lane + e)) k l.few (l.smooth (lane + e) (omega arith) (omega arith))

-- some of the lanes
pub lanes_part : (F : ℕ → Matrix5) (from to first last k : ℕ) (table : List ℤ) → from ≤ first → last ≤ to → Lanes F from to k table → Lanes F first last k table
lanes_part F from to first last k table a b l = record {
  long = l.long;
  few = l.few;
  smooth = λ y c d. l.smooth y (omega arith) (omega arith);
  holds = λ s y h c d. l.holds s y h (omega arith) (omega arith);
}

-- ---- the next place
number_within : (v : Vector5) → Sized (2 ^ 60) v → (p : ℕ) → p < 4 → nat_abs (state_number v p) ≤ 2 ^ 60
number_within v h zero l = h.0
number_within v h (suc zero) l = h.1
number_within v h (suc (suc zero)) l = h.2
number_within v h (suc (suc (suc zero))) l = h.3
number_within v h (suc (suc (suc (suc p)))) l = absurd (omega arith)

module _ (g : ℕ → Vector5) (j : ℕ) (states : List ℤ) (cubic : CubicRows g) (r : SixStates g j states) where
  pub states_small : j ≤ 16 → (i : ℕ) → i < 24 → nat_abs (get_or states i (pos 0)) ≤ 2 ^ 60
  states_small few i h =
      let q : i ≡ 6 * (i / 6) + i % 6 = omega arith in
      subst (λ (z : ℤ). nat_abs z ≤ 2 ^ 60) (sym (ap (λ (x : ℕ). get_or states x (pos 0)) q ∙ r.holds (i / 6) (i % 6) (omega arith) (omega arith)))
      (number_within (state_of (g (i % 6)) j) (state_size (g (i % 6)) j (5 * 2 ^ 34) few (cubic (i % 6) (omega arith)).tapers (lit≤ tt)) (i / 6) (omega arith))

  step_number : (e : ℕ) → e < 6 → (p : ℕ) → p < 3 → state_number (state_of (g e) (j + 1)) p ≡ state_number (state_of (g e) j) p +ℤ state_number (state_of (g e) j) (p + 1)
  unfolding step_of
  step_number e h zero l = ap (λ (v : Vector5). v.a) (sym (state_step (g e) j))
  step_number e h (suc zero) l = ap (λ (v : Vector5). v.b) (sym (state_step (g e) j))
  step_number e h (suc (suc zero)) l = ap (λ (v : Vector5). v.c) (sym (state_step (g e) j))
  step_number e h (suc (suc (suc p))) l = absurd (omega arith)

  last_number : (e : ℕ) → e < 6 → (state_of (g e) (j + 1)).d ≡ (state_of (g e) j).d
  unfolding step_of state_of
  last_number e h = ap (λ (v : Vector5). v.d) (sym (state_step (g e) j)) ∙ (λ z. (state_of (g e) j).d +ℤ pos 24 *ℤ (cubic e h).cubic z) ∙ still4 (state_of (g e) j).d

  module _ (new : List ℤ) (a : Added 0 18 6 states new) where
    summed : (p e : ℕ) → p < 3 → e < 6 → get_or new (6 * p + e) (pos 0) ≡ state_number (state_of (g e) (j + 1)) p
    summed p e l h =
        a.sums (6 * p + e) (omega arith) (omega arith)
        ∙ (λ z. r.holds p e (omega arith) h z +ℤ (ap (λ (x : ℕ). get_or states x (pos 0)) (let q : 6 * p + e + 6 ≡ 6 * (p + 1) + e = omega arith in q) ∙ r.holds (p + 1) e (omega arith) h) z)
        ∙ sym (step_number e h p l)

    number : (p e : ℕ) → p < 4 → e < 6 → get_or new (6 * p + e) (pos 0) ≡ state_number (state_of (g e) (j + 1)) p
    number zero e l h = summed 0 e (lit< tt) h
    number (suc zero) e l h = summed 1 e (lit< tt) h
    number (suc (suc zero)) e l h = summed 2 e (lit< tt) h
    number (suc (suc (suc zero))) e l h = a.after (6 * 3 + e) (omega arith) ∙ r.holds 3 e (lit< tt) h ∙ sym (last_number e h)
    number (suc (suc (suc (suc p)))) e l h = absurd (omega arith)

    pub states_next : length new ≡ 24 → SixStates g (j + 1) new
    states_next n = record { long = n; holds = number }

-- the values there
pub states_value : (g : ℕ → Vector5) (j : ℕ) (states : List ℤ) → SixStates g j states → (e : ℕ) → e < 6 → get_or states (0 + e) (pos 0) ≡ polynomial_at (g e) j
unfolding state_of
states_value g j states r e h = ap (λ (x : ℕ). get_or states x (pos 0)) (let q : 0 + e ≡ 6 * 0 + e = omega arith in q) ∙ r.holds 0 e (lit< tt) h
