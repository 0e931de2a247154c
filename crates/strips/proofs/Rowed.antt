-- Laws of a row's numbers, of apexes and feet by the side's number, and of lists that are filled part by part.
use mathlib.Core.Path.{◌≡◌, refl, sym, ap, ◌∙◌, subst}
use mathlib.Core.Bool.{true, false}
use mathlib.Core.Logic.{◌⊎◌, ⊎_elim}
use mathlib.Core.List.{List}
use Prim.Native.Nat.{ℕ, zero, suc, ◌+◌, ◌-◌, ◌*◌, ◌/◌, ◌%◌, ◌≤◌, ◌<◌}
use native.Mathlib.Nat.{mul-le-mul, mul-le-mul_right}
use native.Mathlib.Omega.{arith}
use lib.Dec.{eqb}
use lib.ListN.{length, set, length-set}
use borrow.Author.Tests.{lt-ltb, le-ltb, eq-eqb, ne_eqb}
use Rattle.paper.specs.Scan.{pick_n}
use Rattle.paper.specs.Net.{Side, side0}
use Rattle.paper.specs.Sampling.{side_at}
use Rattle.paper.specs.Triangles.{apex, foot}
use Rattle.mesh.proofs.Fills.{filled_step}
use Rattle.strips.specs.declared.NumberedRow.{NumberedRow}
use Rattle.strips.specs.PointRows.{row_number, over_number, under_number, strip_number, FilledTo, Fills, three}
use Rattle.strips.proofs.Cases.{test_equal, by_last}
use Rattle.strips.proofs.Strips.{foot_head, foot_tail, step_at, foot_at}

-- ---- the number at a place
module _ (r : NumberedRow) (j : ℕ) where
  pub number_first : j ≡ 0 → r.first ≡ row_number r j
  unfolding row_number
  number_first e = rw (eq-eqb j 0 e)

  pub number_last : (j ≡ 0 → ⊥) → j ≡ r.parts → r.last ≡ row_number r j
  unfolding row_number
  number_last n e = rw (ne_eqb j 0 n, eq-eqb j r.parts e)

  pub number_up : (j ≡ 0 → ⊥) → (j ≡ r.parts → ⊥) → r.up ≡ true → r.base + (j - 1) ≡ row_number r j
  unfolding row_number
  number_up n m e = rw (ne_eqb j 0 n, ne_eqb j r.parts m, e)

  pub number_down : (j ≡ 0 → ⊥) → (j ≡ r.parts → ⊥) → r.up ≡ false → r.base + (r.parts - j - 1) ≡ row_number r j
  unfolding row_number
  number_down n m e = rw (ne_eqb j 0 n, ne_eqb j r.parts m, e)

-- ---- a row of a ring
module _ (start b w last : ℕ) (short : b ≤ 3 * w) (wraps : b + w ≡ 4 * w → last ≡ start) (goes : (b + w ≡ 4 * w → ⊥) → last ≡ start + b + w) where
  abbrev ringed : NumberedRow
  ringed = record { first = start + b; last = last; base = start + b + 1; parts = w; up = true }

  placed : (j x : ℕ) → (b + j ≡ 4 * w → x ≡ start) → ((b + j ≡ 4 * w → ⊥) → x ≡ start + (b + j)) → x ≡ start + pick_n (eqb (b + j) (4 * w)) 0 (b + j)
  placed j x p q =
      test_equal (b + j) (4 * w) (λ e z. rw e (p z ∙ omega arith)) (λ e z. rw e (q z))

  pub ring_numbers : (j : ℕ) → j ≤ w → row_number ringed j ≡ start + pick_n (eqb (b + j) (4 * w)) 0 (b + j)
  ring_numbers zero l = sym (number_first ringed 0 refl) ∙ placed 0 (start + b) (λ z. omega arith) (λ z. omega arith)
  ring_numbers (suc j) l =
      let n : suc j ≡ 0 → ⊥ = λ z. omega arith in
      by_last (suc j) w l
      (λ e. sym (number_last ringed (suc j) n e) ∙ placed (suc j) last (λ z. wraps (omega arith)) (λ z. goes (λ y. z (omega arith)) ∙ omega arith))
      (λ m. sym (number_up ringed (suc j) n (λ z. omega arith) refl)
      ∙ placed (suc j) (start + b + 1 + (suc j - 1)) (λ z. absurd (omega arith)) (λ z. omega arith))

pub ring_wraps : (start side w last : ℕ) → side ≤ 3 → ((side < 3) × (last ≡ start + side * w + w)) ⊎ ((3 ≤ side) × (last ≡ start))
    → (side * w ≤ 3 * w) × (side * w + w ≡ 4 * w → last ≡ start) × ((side * w + w ≡ 4 * w → ⊥) → last ≡ start + side * w + w)
ring_wraps start side w last h o =
    ⊎_elim
    (λ (t : (side < 3) × (last ≡ start + side * w + w)).
    let s : side ≤ 2 = omega arith in let m : side * w ≤ 2 * w = mul-le-mul_right w s in (omega arith, λ e. omega arith, λ n. t.1))
    (λ (t : (3 ≤ side) × (last ≡ start)).
    let q : side * w ≡ 3 * w = ap (λ (x : ℕ). x * w) (let z : side ≡ 3 = omega arith in z) in (omega arith, λ e. t.1, λ n. absurd (n (omega arith)))) o

-- ---- shares and steps
pub times_few : (a b : ℕ) → a ≤ 64 → b ≤ 64 → a * b ≤ 64 * 64
times_few a b h l = mul-le-mul h l

module _ (p u i : ℕ) (most : u ≤ p) (h : i + 1 < u) where
  pub step_less : ((i + 1) * (2 * p) + (u - 1)) / (2 * u) < p
  unfolding step_at
  step_less = omega (arith, (foot_at side0 p u i most h).to, foot_head p u i most h)

  pub step_some : 0 < ((i + 1) * (2 * p) + (u - 1)) / (2 * u)
  unfolding step_at
  step_some = omega (arith, (foot_at side0 p u i most h).from, foot_head p u i most h)

  pub foot_even : (side : ℕ) → side ≤ 3 → side % 2 ≡ 0 → ((i + 1) * (2 * p) + (u - 1)) / (2 * u) ≡ foot (side_at side) p u i
  unfolding step_at foot
  foot_even zero l e = sym (foot_head p u i most h)
  foot_even (suc zero) l e = absurd (omega arith)
  foot_even (suc (suc zero)) l e = sym (foot_head p u i most h)
  foot_even (suc (suc (suc n))) l e = absurd (omega arith)

  pub foot_odd : (side : ℕ) → side ≤ 3 → (side % 2 ≡ 0 → ⊥) → p - ((u - 2 - i + 1) * (2 * p) + (u - 1)) / (2 * u) ≡ foot (side_at side) p u i
  unfolding step_at foot
  foot_odd zero l e = absurd (e refl)
  foot_odd (suc zero) l e = sym (foot_tail p u i most h)
  foot_odd (suc (suc zero)) l e = absurd (e refl)
  foot_odd (suc (suc (suc n))) l e = sym (foot_tail p u i most h)

-- ---- fills
pub filled_put : (f : ℕ → ℕ) (old : List ℕ) (i : ℕ) (out : List ℕ) (x : ℕ) → i < length out → FilledTo f old i out → x ≡ f i → FilledTo f old (i + 1) (set out i x)
filled_put f old i out x h e q = record { long = simp length-set e.long; holds = filled_step f old i out x 0 (omega (arith, e.long)) e.holds q }

pub fills_none : {A : Type 0} (g : ℕ → A) (at : ℕ) (out : List A) → Fills g at 0 out out
fills_none g at out f old e h = subst (λ (x : ℕ). FilledTo f old x out) (let z : at ≡ at + 0 = omega arith in z) e

pub fills_more : {A : Type 0} (g h : ℕ → A) (at n to k : ℕ) (first mid last : List A) → to ≡ at + n → Fills g at n first mid → Fills h to k mid last
    → ((x : ℕ) → x < k → h x ≡ g (n + x)) → Fills g at (n + k) first last
fills_more g h at n to k first mid last q a b same f old e values =
    let m = a f old e (λ x l. values x (omega arith)) in
    let r = b f old (subst (λ (x : ℕ). FilledTo f old x mid) (sym q) m)
    (λ x l. ap f (let z : to + x ≡ at + (n + x) = omega arith in z) ∙ values (n + x) (omega arith) ∙ sym (same x l)) in
    subst (λ (x : ℕ). FilledTo f old x last) (let z : to + k ≡ at + (n + k) = omega arith in z) r

pub fills_as : {A : Type 0} (g : ℕ → A) (at n m : ℕ) (first last : List A) → n ≡ m → Fills g at n first last → Fills g at m first last
fills_as g at n m first last e a = subst (λ (x : ℕ). Fills g at x first last) e a

pub fills_three : (at a b c : ℕ) (out : List ℕ) → at + 3 ≤ length out → Fills (three a b c) at 3 out (set (set (set out at a) (at + 1) b) (at + 2) c)
fills_three at a b c out h f old e values =
    let v0 = values 0 (omega arith) in let v1 = values 1 (omega arith) in let v2 = values 2 (omega arith) in
    let s0 = filled_put f old at out a (omega arith) e (sym v0 ∙ ap f (let z : at + 0 ≡ at = omega arith in z)) in
    let s1 = filled_put f old (at + 1) (set out at a) b (simp length-set (omega arith)) s0 (sym v1) in
    let s2 = filled_put f old (at + 2) (set (set out at a) (at + 1) b) c (simp length-set (omega arith))
    (subst (λ (x : ℕ). FilledTo f old x (set (set out at a) (at + 1) b)) (let z : at + 1 + 1 ≡ at + 2 = omega arith in z) s1) (sym v2) in
    subst (λ (x : ℕ). FilledTo f old x (set (set (set out at a) (at + 1) b) (at + 2) c)) (let z : at + 2 + 1 ≡ at + 3 = omega arith in z) s2

-- ---- the numbers of a strip, three by three
module _ (s : Side) (L U : NumberedRow) where
  strip_over : (t x e : ℕ) → t < L.parts → x / 3 ≡ t → x % 3 ≡ e → over_number s L U t e ≡ strip_number s L U x
  unfolding strip_number
  strip_over t x e h q r = rw (q, r, lt-ltb t L.parts h)

  strip_under : (i x e : ℕ) → x / 3 ≡ L.parts + i → x % 3 ≡ e → under_number s L U i e ≡ strip_number s L U x
  unfolding strip_number
  strip_under i x e q r =
      rw (q, r, le-ltb (L.parts + i) L.parts (let z : L.parts ≤ L.parts + i = omega arith in z))
      (ap (λ (y : ℕ). under_number s L U y e) (let z : i ≡ L.parts + i - L.parts = omega arith in z))

  pub over_three : (t a b c : ℕ) → t < L.parts → a ≡ row_number L t → b ≡ row_number L (t + 1) → c ≡ row_number U (apex s L.parts (U.parts + 1) t)
      → (x : ℕ) → x < 3 → three a b c x ≡ strip_number s L U (3 * t + x)
  unfolding over_number
  over_three t a b c h p q r zero l = p ∙ strip_over t (3 * t + 0) 0 h (omega arith) (omega arith)
  over_three t a b c h p q r (suc zero) l = q ∙ strip_over t (3 * t + 1) 1 h (omega arith) (omega arith)
  over_three t a b c h p q r (suc (suc zero)) l = r ∙ strip_over t (3 * t + 2) 2 h (omega arith) (omega arith)
  over_three t a b c h p q r (suc (suc (suc n))) l = absurd (omega arith)

  pub under_three : (i a b c : ℕ) → a ≡ row_number U (i + 1) → b ≡ row_number U i → c ≡ row_number L (foot s L.parts (U.parts + 1) i)
      → (x : ℕ) → x < 3 → three a b c x ≡ strip_number s L U (3 * L.parts + (3 * i + x))
  unfolding under_number
  under_three i a b c p q r zero l = p ∙ strip_under i (3 * L.parts + (3 * i + 0)) 0 (omega arith) (omega arith)
  under_three i a b c p q r (suc zero) l = q ∙ strip_under i (3 * L.parts + (3 * i + 1)) 1 (omega arith) (omega arith)
  under_three i a b c p q r (suc (suc zero)) l = r ∙ strip_under i (3 * L.parts + (3 * i + 2)) 2 (omega arith) (omega arith)
  under_three i a b c p q r (suc (suc (suc n))) l = absurd (omega arith)
