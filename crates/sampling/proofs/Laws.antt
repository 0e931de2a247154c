-- The checks, the sizes of a side's control points, and one sample.
use mathlib.Core.Path.{◌≡◌, refl, sym, ap, ◌∙◌, subst}
use mathlib.Core.Bool.{Bool, true, false, not, ◌||◌}
use mathlib.Core.List.{List}
use Prim.Native.Nat.{ℕ, zero, suc, ◌+◌, ◌-◌, ◌*◌, ◌/◌, ◌^◌, ◌≤◌, ◌<◌}
use native.Mathlib.Nat.{mul-le-mul}
use native.Mathlib.Omega.{arith}
use borrow.Author.Tests.{ltb-false, lt-ltb, le-ltb, eqb-true, eqb-false, eq-eqb, ne_eqb, not-false}
use lib.Dec.{ltb, eqb, lit≤}
use lib.ListN.{length}
use lib.IntN.{ℤ, pos, nat_abs}
use mir.Syntax.{w32}
use mir.Val.{SFits, to_z, of_z}
use mir.ValLaws.{to_z-of_z}
use Rattle.paper.specs.Faults.{Verdict, sound, fault, ◌or_else◌, single, outside, stated, Answer, done}
use Rattle.std.specs.Prelude.{Err}
use Rattle.paper.specs.declared.Refusal.{Refusal}
use Rattle.paper.specs.Numbers.{round}
use Rattle.paper.specs.Net.{Side}
use Rattle.paper.specs.File.{no_room, begins}
use Rattle.paper.specs.Floats.{net_verdict, fault20, point_verdict, axes}
use Rattle.paper.specs.Sampling.{control, Weights, weights, on_axis, bernstein_sum, sample_at, sample_point, fault32, most_parts, fault33, sample_verdict, side_at}
use Rattle.paper.specs.Sampling.{Sampled, sample_count, triangle_samples, triangle_verdict, TriangleSampled}
use Rattle.mesh.proofs.Ranges.{or_left, or_right, none_left, none_right, inside, at_least, at_most}
use Rattle.mesh.proofs.Verdicts.{sound_left, sound_right, single_sound, single_miss, single_hit, or_else_fault, or_else_sound, stop, past, refusing}
use Rattle.bernstein.specs.declared.Vector5.{Vector5}
use Rattle.bernstein.specs.declared.Matrix5.{Matrix5}
use Rattle.bernstein.specs.Sums.{AllSized, Tapered, AllTapered, rows_of, polynomial_of, row_of, polynomial_at, quartic_sum}
use Rattle.bernstein.proofs.Laws.{bits, sized_bits, abs_bounds, polynomial_tapers, row_tapers, value_size}
use Rattle.bernstein.proofs.Identity.{polynomial_sum}
use Rattle.bernstein.proofs.Sum.{bernstein_is, sum_size}
use Rattle.control_points.specs.Places.{b_place, a_place}
use Rattle.control_points.proofs.Laws.{outer_place, a_place_lem, inner_place, inner_a_place, number_size}
use Rattle.sampling.specs.Grid.{Sampleable}
use Rattle.sampling.proofs.Lists.{row_value}

-- ---- 33, test by test
eqb_same : (a b c d : ℕ) → (a ≡ b → c ≡ d) → (c ≡ d → a ≡ b) → eqb a b ≡ eqb c d
eqb_same a b c d f g = go (eqb a b) refl
  where
    go : (t : Bool) → eqb a b ≡ t → eqb a b ≡ eqb c d
    go true e = e ∙ sym (eq-eqb c d (f (eqb-true a b e)))
    go false e = e ∙ sym (ne_eqb c d (λ h. eqb-false a b e (g h)))

module _ (i j k n : ℕ) where
  pub parts_out : outside 1 most_parts n ≡ true → true ≡ fault33 (weights i j k n)
  unfolding fault33
  parts_out e = sym (or_left (outside 1 most_parts n) _ e)

  pub parts_differ : (i + j + k ≡ n → ⊥) → true ≡ fault33 (weights i j k n)
  unfolding fault33
  parts_differ h = sym (or_right (outside 1 most_parts n) _ (ap not (ne_eqb (i + j + k) n h)))

  pub parts_decide : 1 ≤ n → n ≤ most_parts → i ≤ n → j ≤ n - i → not (eqb (n - i - j) k) ≡ fault33 (weights i j k n)
  unfolding fault33
  parts_decide l h f g =
      ap not (eqb_same (n - i - j) k (i + j + k) n (λ e. omega arith) (λ e. omega arith))
      ∙ ap (λ (b : Bool). b || not (eqb (i + j + k) n)) (sym (inside 1 most_parts n l h))

-- ---- the chain of checks
or_else_none : (v : Verdict) → v or_else sound ≡ v
unfolding ◌or_else◌
or_else_none sound = refl
or_else_none (fault k p) = refl

pub first_point : (numbers : List ℤ) → point_verdict numbers 0 ≡ net_verdict numbers
unfolding point_verdict fault20
first_point numbers = ap (λ (v : Verdict). net_verdict numbers or_else v) (single_miss 20 0 refl) ∙ or_else_none (net_verdict numbers)

module _ (numbers : List ℤ) (side : ℕ) (w : Weights) where
  pub net_refused : (k p : ℕ) → net_verdict numbers ≡ fault k p → fault k p ≡ sample_verdict numbers side w
  unfolding sample_verdict
  net_refused k p e = sym (or_else_fault k p _ e)

  module _ (e : net_verdict numbers ≡ sound) where
    pub side_refused : 3 < side → fault 32 side ≡ sample_verdict numbers side w
    unfolding sample_verdict fault32
    side_refused h = sym (or_else_sound _ e ∙ or_else_fault 32 side _ (single_hit 32 side (lt-ltb 3 side h)))

    module _ (h : side ≤ 3) where
      pub parts_refused : fault33 w ≡ true → fault 33 w.parts ≡ sample_verdict numbers side w
      unfolding sample_verdict fault32
      parts_refused f = sym (or_else_sound _ e ∙ or_else_sound _ (single_miss 32 side (le-ltb 3 side h)) ∙ single_hit 33 w.parts f)

      pub all_passed : fault33 w ≡ false → sound ≡ sample_verdict numbers side w
      unfolding sample_verdict fault32
      all_passed f = sym (or_else_sound _ e ∙ or_else_sound _ (single_miss 32 side (le-ltb 3 side h)) ∙ single_miss 33 w.parts f)

-- what a passed check says
module _ (numbers : List ℤ) (side i j k n : ℕ) (e : sample_verdict numbers side (weights i j k n) ≡ sound) where
  pub net_passed : net_verdict numbers ≡ sound
  unfolding sample_verdict
  net_passed = sound_left _ _ e

  pub side_passed : side ≤ 3
  unfolding sample_verdict fault32
  side_passed = ltb-false 3 side (single_sound 32 _ _ (sound_left _ _ (sound_right _ _ e)))

  no_fault33 : (outside 1 most_parts n || not (eqb (i + j + k) n)) ≡ false
  unfolding sample_verdict fault33
  no_fault33 = single_sound 33 _ _ (sound_right _ _ (sound_right _ _ e))

  pub some_parts : 1 ≤ n
  some_parts = at_least 1 most_parts n (none_left (outside 1 most_parts n) (not (eqb (i + j + k) n)) no_fault33)

  pub few_parts : n ≤ 16
  few_parts = at_most 1 most_parts n (none_left (outside 1 most_parts n) (not (eqb (i + j + k) n)) no_fault33)

  pub parts_sum : i + j + k ≡ n
  parts_sum = eqb-true (i + j + k) n (not-false (eqb (i + j + k) n) (none_right (outside 1 most_parts n) (not (eqb (i + j + k) n)) no_fault33))

-- ---- the control points are within ±2^27, and so are their sums over n^4
module _ (numbers : List ℤ) (e : net_verdict numbers ≡ sound) (side axis : ℕ) (h : axis < 3) where
  abbrev P : ℕ → ℕ → ℤ
  P = control (on_axis numbers axis) (side_at side)

  place_size : (t : ℕ) → t ≤ 40 → nat_abs (on_axis numbers axis t) ≤ 2 ^ 27
  place_size t l = number_size numbers e t axis h l

  b_in : (side q r : ℕ) → 2 * q + r ≤ 4 → b_place side q r ≤ 40
  b_in zero q r l = omega arith
  b_in (suc zero) q r l = omega arith
  b_in (suc (suc zero)) q r l = omega arith
  b_in (suc (suc (suc n))) q r l = omega arith

  a_in : (side q r : ℕ) → 2 * q + r ≤ 3 → a_place side q r ≤ 40
  a_in zero q r l = omega arith
  a_in (suc zero) q r l = omega arith
  a_in (suc (suc zero)) q r l = omega arith
  a_in (suc (suc (suc n))) q r l = omega arith

  sized_by : (z : ℤ) (t : ℕ) → z ≡ on_axis numbers axis t → t ≤ 40 → nat_abs z ≤ 2 ^ 27
  sized_by z t q l = rw q (place_size t l)

  pub control_size : (n q : ℕ) → n + q ≤ 4 → nat_abs (P n q) ≤ 2 ^ 27
  control_size zero q l = sized_by _ (b_place side 0 q) (outer_place (on_axis numbers axis) side q (omega arith)) (b_in side 0 q (omega arith))
  control_size (suc zero) q l = sized_by _ (a_place side 0 q) (a_place_lem (on_axis numbers axis) side q (omega arith)) (a_in side 0 q (omega arith))
  control_size (suc (suc zero)) q l = sized_by _ (b_place side 1 q) (inner_place (on_axis numbers axis) side q (omega arith)) (b_in side 1 q (omega arith))
  control_size (suc (suc (suc zero))) q l =
      sized_by _ (a_place side 1 q) (inner_a_place (on_axis numbers axis) side q (omega arith)) (a_in side 1 q (omega arith))
  control_size (suc (suc (suc (suc n)))) q l = place_size 12 (lit≤ tt)

  zero_size : nat_abs (pos 0) ≤ 2 ^ 27
  zero_size = lit≤ tt

  pub points_sized : AllSized (2 ^ 27) (rows_of P)
  points_sized =
      let c = control_size in
      let z = zero_size in (
        (c 0 0 (lit≤ tt), c 0 1 (lit≤ tt), c 0 2 (lit≤ tt), c 0 3 (lit≤ tt), c 0 4 (lit≤ tt)),
        (c 1 0 (lit≤ tt), c 1 1 (lit≤ tt), c 1 2 (lit≤ tt), c 1 3 (lit≤ tt), z),
        (c 2 0 (lit≤ tt), c 2 1 (lit≤ tt), c 2 2 (lit≤ tt), z, z),
        (c 3 0 (lit≤ tt), c 3 1 (lit≤ tt), z, z, z),
        (c 4 0 (lit≤ tt), z, z, z, z),
      )

  pub points_small : (n i j k : ℕ) → i + j + k ≡ n → nat_abs (quartic_sum (rows_of P) (pos i) (pos j) (pos k)) ≤ 2 ^ 27 * n ^ 4
  points_small n i j k q =
      subst (λ (z : ℤ). nat_abs z ≤ 2 ^ 27 * n ^ 4) (bernstein_is (on_axis numbers axis) (side_at side) i j k)
      (subst (λ (m : ℕ). nat_abs (bernstein_sum (on_axis numbers axis) (side_at side) i j k) ≤ 2 ^ 27 * m ^ 4) q
      (sum_size (on_axis numbers axis) (side_at side) i j k (2 ^ 27) (λ a b l. abs_bounds (P a b) (2 ^ 27) (control_size a b l))))

  pub points_sampleable : (n : ℕ) → 1 ≤ n → n ≤ 16 → Sampleable (rows_of P) n
  points_sampleable n l f = record { sized = points_sized; some = l; few = f; small = points_small n }

  -- the sample from a row's value
  pub sample_is : (i j k n : ℕ) → i + j + k ≡ n
      → round (polynomial_at (row_of (polynomial_of (rows_of P) (pos n)) k) j) (pos (n ^ 4)) ≡ sample_at numbers (side_at side) (weights i j k n) axis
  unfolding sample_at
  sample_is i j k n q =
      ap (λ (z : ℤ). round z (pos (n ^ 4)))
      (subst (λ (m : ℕ). polynomial_at (row_of (polynomial_of (rows_of P) (pos m)) k) j ≡ quartic_sum (rows_of P) (pos i) (pos j) (pos k)) q
      (polynomial_sum (rows_of P) i j k)
      ∙ sym (bernstein_is (on_axis numbers axis) (side_at side) i j k))

-- ---- the steps of one sample on an axis
module _ (numbers : List ℤ) (e : net_verdict numbers ≡ sound) (side axis : ℕ) (h : axis < 3) (j k n : ℕ) (l : 1 ≤ n) (f : n ≤ 16) (g : j + k ≤ n) where
  abbrev points : Matrix5
  points = rows_of (P numbers e side axis h)

  tapers : AllTapered (polynomial_of points (pos n))
  tapers = polynomial_tapers points n (points_sized numbers e side axis h) f

  module _ (p : Matrix5) (is-points : p ≡ points) where
    pub p_sized : AllSized (2 ^ 27) p
    p_sized = subst (λ (q : Matrix5). AllSized (2 ^ 27) q) (sym is-points) (points_sized numbers e side axis h)

    module _ (r : Vector5) (is_row : r ≡ row_of (polynomial_of p (pos n)) k) where
      row_is : r ≡ row_of (polynomial_of points (pos n)) k
      row_is = is_row ∙ ap (λ (q : Matrix5). row_of (polynomial_of q (pos n)) k) is-points

      pub r_tapers : Tapered (5 * 2 ^ 34) r
      r_tapers =
          subst (λ (q : Vector5). Tapered (5 * 2 ^ 34) q) (sym row_is) (row_tapers (polynomial_of points (pos n)) k (omega arith) tapers)

      module _ (v : ℤ) (is-value : v ≡ polynomial_at r j) where
        v_bits : bits v ≡ v
        v_bits =
            sized_bits v (5 * (65536 * (5 * 2 ^ 34))) (subst (λ (z : ℤ). nat_abs z ≤ 5 * (65536 * (5 * 2 ^ 34))) (sym is-value)
            (value_size r j (5 * 2 ^ 34) (omega arith) r_tapers)) (lit≤ tt)

        v_is : bits v ≡ polynomial_at (row_of (polynomial_of points (pos n)) k) j
        v_is = v_bits ∙ is-value ∙ ap (λ (q : Vector5). polynomial_at q j) row_is

        pub v_small : nat_abs (bits v) ≤ 2 ^ 27 * n ^ 4
        v_small =
            subst (λ (z : ℤ). nat_abs z ≤ 2 ^ 27 * n ^ 4) (sym (v_is ∙ row_value points n k j (omega arith)))
            (points_small numbers e side axis h n (n - k - j) j k (omega arith))

        pub v_sample : (q : ℤ) → SFits w32 q → q ≡ round (bits v) (pos (n ^ 4)) → (i : ℕ) → i + j + k ≡ n
            → to_z w32 (of_z w32 q) ≡ sample_at numbers (side_at side) (weights i j k n) axis
        v_sample q b is i sums =
            to_z-of_z w32 q b ∙ is ∙ ap (λ (z : ℤ). round z (pos (n ^ 4))) v_is ∙ sample_is numbers e side axis h i j k n sums

-- ---- what the call for one sample leaves
pub point_is : (numbers : List ℤ) (s : Side) (w : Weights) (x y z : ℤ) → x ≡ sample_at numbers s w 0 → y ≡ sample_at numbers s w 1
    → z ≡ sample_at numbers s w 2 → axes x y z ≡ sample_point numbers s w
unfolding sample_point
point_is numbers s w x y z e f g = rw (e, f, g)

module _ (numbers : List ℤ) (side : ℕ) (w : Weights) (old : List ℤ) where
  pub sample_refused : (a : Answer) → stated a ≡ sample_verdict numbers side w → (r : Refusal) → a ≡ Err r → Sampled numbers side w old (Err r) old
  sample_refused a e r q = record { answers = sym (ap stated q) ∙ e; holds = refl }

  pub sample_done : (out : List ℤ) → sample_verdict numbers side w ≡ sound → out ≡ sample_point numbers (side_at side) w
      → Sampled numbers side w old done out
  sample_done out e h = record { answers = sym e; holds = h }

-- ---- what the call for a triangle answers: the checks of its first sample, then the room
or_else_four : (u v w x : Verdict) → u or_else v or_else w or_else x ≡ (u or_else v or_else w) or_else x
unfolding ◌or_else◌
or_else_four sound sound w x = refl
or_else_four sound (fault k p) w x = refl
or_else_four (fault k p) v w x = refl

first_sample : (n : ℕ) → outside 1 most_parts n ≡ fault33 (weights n 0 0 n)
unfolding fault33
first_sample n =
    sym (ap (λ (b : Bool). outside 1 most_parts n || not b) (eq-eqb (n + 0 + 0) n (omega arith)) ∙ none_more (outside 1 most_parts n))
  where
    none_more : (b : Bool) → b || false ≡ b
    none_more true = refl
    none_more false = refl

pub triangle_chain : (numbers : List ℤ) (side n room : ℕ)
    → sample_verdict numbers side (weights n 0 0 n) or_else single no_room (ltb room (3 * sample_count n)) (3 * sample_count n)
    ≡ triangle_verdict numbers side n room
unfolding triangle_verdict sample_verdict
triangle_chain numbers side n room =
    sym (or_else_four (net_verdict numbers) (single 32 (fault32 side) side) (single 33 (fault33 (weights n 0 0 n)) n) _)
    ∙ ap (λ (b : Bool). net_verdict numbers or_else single 32 (fault32 side) side or_else single 33 b n
    or_else single no_room (ltb room (3 * sample_count n)) (3 * sample_count n)) (sym (first_sample n))

module _ (numbers : List ℤ) (side n : ℕ) (old : List ℤ) where
  pub triangle_refused : (a : Answer) → stated a ≡ sample_verdict numbers side (weights n 0 0 n) → (r : Refusal) → a ≡ Err r
      → TriangleSampled numbers side n old (Err r) old
  triangle_refused a e r q =
      record { answers = stop a e r q _ ∙ triangle_chain numbers side n (length old); holds = refl }

  module _ (e : sample_verdict numbers side (weights n 0 0 n) ≡ sound) where
    pub triangle_short : (needed : ℕ) → needed ≡ 3 * sample_count n → length old < needed → TriangleSampled numbers side n old (refusing no_room needed) old
    triangle_short needed q h =
        record {
          answers =
              past e _ (ap (fault no_room) q ∙ sym (single_hit no_room (3 * sample_count n) (lt-ltb (length old) (3 * sample_count n) (rw q at h))))
              ∙ triangle_chain numbers side n (length old);
          holds = refl;
        }

    pub triangle_done : (out : List ℤ) → 3 * sample_count n ≤ length old → out ≡ begins (triangle_samples numbers (side_at side) n) old
        → TriangleSampled numbers side n old done out
    triangle_done out h q =
        record {
          answers =
              past e _ (sym (single_miss no_room (3 * sample_count n) (le-ltb (length old) (3 * sample_count n) h)))
              ∙ triangle_chain numbers side n (length old);
          holds = q;
        }

-- the room that a triangle in at most 16 parts needs
pub few_samples : (n : ℕ) → n ≤ 16 → (n + 1) * (n + 2) ≤ 17 * 18
few_samples n h = mul-le-mul (let e : n + 1 ≤ 17 = omega arith in e) (let e : n + 2 ≤ 18 = omega arith in e)

pub needed_is : (n : ℕ) → 3 * ((n + 1) * (n + 2) / 2) ≡ 3 * sample_count n
unfolding sample_count
needed_is n = refl
