-- The checks, the differences and the two cases, as the code meets them.
use mathlib.Core.Path.{◌≡◌, sym, ap, ◌∙◌}
use mathlib.Core.Bool.{Bool, true, false, not, ◌&&◌}
use mathlib.Core.List.{List}
use Rattle.std.specs.Prelude.{Ok, Err}
use Prim.Native.Nat.{ℕ, ◌+◌, ◌/◌, ◌^◌, ◌≤◌, ◌<◌}
use native.Mathlib.Nat.{le_trans, div-le_self}
use native.Mathlib.Omega.{arith}
use lib.Dec.{T, lit<, le→leb, lt→ltb}
use lib.ListN.{length, get_or}
use lib.IntN.{ℤ, pos, negsuc, ◌-ℤ◌, ◌*ℤ◌, nat_abs}
use lib.Signed.{shr_z}
use lib.Ieee.{Float, binary32, binary64, of_int, in_float, fits, is_nan}
use mir.Syntax.{w32}
use mir.Val.{SFits, to_z, of_z}
use mir.ValLaws.{to_z-of_z}
use borrow.Author.Tests.{leb-true, ltb-false, eqb-true, not-true, not-false, le-ltb}
use Rattle.paper.specs.Numbers.{floor}
use Rattle.paper.specs.Faults.{Verdict, sound, ◌or_else◌, single, lowest_of, stated, Answer}
use Rattle.paper.specs.Floats.{within, fault18, fault19, fault20, net_verdict, point_verdict, difference, is_near, far_first, far_second}
use Rattle.paper.specs.Floats.{unless, split, point_of, read_back, InFloats}
use Rattle.paper.specs.declared.Floats.{Floats}
use Rattle.paper.specs.declared.FloatPoint.{FloatPoint}
use Rattle.paper.specs.declared.FloatPoint.TheVariants.{Near, Far}
use Rattle.paper.specs.declared.Refusal.{Refusal}
use Rattle.numbers.proofs.Poly.{over, poly}
use Rattle.numbers.proofs.Laws.{mul_comm}
use Rattle.numbers.proofs.Machine.{abs_fits}
use Rattle.mesh.proofs.Scans.{and_left, and_right}
use Rattle.mesh.proofs.Verdicts.{sound_left, sound_right, single_sound, single_miss, lowest_sound, or_else_sound, or_else_assoc}
use Rattle.floats.specs.Exact.{FloatOf, first_part, SplitTo}
use Rattle.floats.proofs.Exact.{whole_carried, float_of, narrows, narrow_float_of, first_carried, first_size, second_size}

-- ---- near, in three tests
pub near_all : (x y z : ℤ) → is_near x y z ≡ true → (nat_abs x ≤ 2 ^ 24) × (nat_abs y ≤ 2 ^ 24) × (nat_abs z ≤ 2 ^ 24)
unfolding is_near
near_all x y z e =
    let yz = and_right (within (2 ^ 24) x) _ e in (
      leb-true (nat_abs x) (2 ^ 24) (and_left (within (2 ^ 24) x) _ e),
      leb-true (nat_abs y) (2 ^ 24) (and_left (within (2 ^ 24) y) _ yz),
      leb-true (nat_abs z) (2 ^ 24) (and_right (within (2 ^ 24) y) _ yz),
    )

-- a number by its bits
abbrev pub bits : ℤ → ℤ
bits z = to_z w32 (of_z w32 z)

-- the code's tests, one after the other, and of each number's bits
test : (m : ℕ) (v : ℤ) → SFits w32 v → {t : Bool} → t ≡ within m (bits v) → within m v ≡ t
test m v f e = sym (e ∙ ap (within m) (to_z-of_z w32 v f))

module _ {x y z : ℤ} (fx : SFits w32 x) (fy : SFits w32 y) (fz : SFits w32 z) {s : Bool} (ex : s ≡ within (2 ^ 24) (bits x)) where
  pub x_far : not s ≡ true → false ≡ is_near x y z
  unfolding is_near
  x_far h = rw (test (2 ^ 24) x fx ex, not-true s h)

  module _ (h : not s ≡ false) {t : Bool} (ey : t ≡ within (2 ^ 24) (bits y)) where
    pub y_far : not t ≡ true → false ≡ is_near x y z
    unfolding is_near
    y_far k = rw (test (2 ^ 24) x fx ex, not-false s h, test (2 ^ 24) y fy ey, not-true t k)

    pub z_decides : not t ≡ false → {u : Bool} → u ≡ within (2 ^ 24) (bits z) → u ≡ is_near x y z
    unfolding is_near
    z_decides k ez = rw (test (2 ^ 24) x fx ex, not-false s h, test (2 ^ 24) y fy ey, not-false t k) (sym (test (2 ^ 24) z fz ez))

-- ---- a number of the list, by the test of its bits
pub number_tested : (numbers : List ℤ) (i : ℕ) → SFits w32 (get_or numbers i (pos 0)) → {t : Bool} → t ≡ within (2 ^ 27) (bits (get_or numbers i (pos 0)))
    → fault19 numbers i ≡ not t
unfolding fault19
number_tested numbers i f e = ap not (test (2 ^ 27) (get_or numbers i (pos 0)) f e)

-- ---- a list that passes 18 and 19, and a point that passes 20
module _ (numbers : List ℤ) (e : net_verdict numbers ≡ sound) where
  pub is_long : length numbers ≡ 123
  unfolding net_verdict fault18
  is_long = eqb-true (length numbers) 123 (not-false _ (single_sound 18 _ _ (sound_left _ _ e)))

  pub number_le : (i : ℕ) → i < 123 → nat_abs (get_or numbers i (pos 0)) ≤ 2 ^ 27
  unfolding net_verdict fault19
  number_le i l =
      leb-true (nat_abs (get_or numbers i (pos 0))) (2 ^ 27)
      (not-false _ (lowest_sound 19 (length numbers) (fault19 numbers) (sound_right _ _ e) i (omega (arith, is_long))))

  pub point_sound : (p : ℕ) → p ≤ 40 → point_verdict numbers p ≡ sound
  unfolding point_verdict fault20
  point_sound p h = or_else_sound _ e ∙ single_miss 20 p (le-ltb 40 p h)

module _ (numbers : List ℤ) (point : ℕ) (e : point_verdict numbers point ≡ sound) where
  pub net_sound : net_verdict numbers ≡ sound
  unfolding point_verdict
  net_sound = sound_left _ _ e

  pub point_le : point ≤ 40
  unfolding point_verdict fault20
  point_le = ltb-false 40 point (single_sound 20 _ _ (sound_right _ _ e))

-- ---- a difference of two numbers, by their bits
pub apart : (a b : ℤ) → nat_abs a ≤ 2 ^ 27 → nat_abs b ≤ 2 ^ 27 → nat_abs (a -ℤ b) ≤ 2 ^ 28
apart = over 2 _ λ ρ. simp poly (omega arith)

module _ (a b : ℤ) (ha : nat_abs a ≤ 2 ^ 27) (hb : nat_abs b ≤ 2 ^ 27) where
  a_bits : to_z w32 (of_z w32 a) ≡ a
  a_bits = to_z-of_z w32 a (abs_fits w32 a (2 ^ 27) ha (lit< tt))

  b_bits : to_z w32 (of_z w32 b) ≡ b
  b_bits = to_z-of_z w32 b (abs_fits w32 b (2 ^ 27) hb (lit< tt))

  pub less_fits : SFits w32 (to_z w32 (of_z w32 a) -ℤ to_z w32 (of_z w32 b))
  less_fits = rw (a_bits, b_bits) (abs_fits w32 (a -ℤ b) (2 ^ 28) (apart a b ha hb) (lit< tt))

  pub less_is : to_z w32 (of_z w32 (to_z w32 (of_z w32 a) -ℤ to_z w32 (of_z w32 b))) ≡ a -ℤ b
  less_is = to_z-of_z w32 (to_z w32 (of_z w32 a) -ℤ to_z w32 (of_z w32 b)) less_fits ∙ rw (a_bits, b_bits)

  pub less_size : nat_abs (to_z w32 (of_z w32 (to_z w32 (of_z w32 a) -ℤ to_z w32 (of_z w32 b)))) ≤ 2 ^ 28
  less_size = rw less_is (apart a b ha hb)

-- ---- the parts of a difference
shift_floor : (z : ℤ) → shr_z z 4096 *ℤ pos 4096 ≡ far_first z
unfolding floor far_first
shift_floor (pos a) = mul_comm (pos (a / 4096)) (pos 4096)
shift_floor (negsuc a) = mul_comm (negsuc (a / 4096)) (pos 4096)

shift_size : (z : ℤ) → nat_abs z ≤ 2 ^ 28 → nat_abs (shr_z z 4096) ≤ 2 ^ 28
shift_size (pos a) h = le_trans (div-le_self a 4096) h
shift_size (negsuc a) h = omega (arith, div-le_self a 4096)

pub in_float_lem : (z : ℤ) → nat_abs z ≤ 2 ^ 24 → T (in_float binary32 z)
unfolding in_float
in_float_lem (pos n) h = le→leb n (2 ^ 24) h
in_float_lem (negsuc n) h = lt→ltb n (2 ^ 24) h

module _ (d : ℤ) (h : nat_abs d ≤ 2 ^ 28) where
  pub d_bits : to_z w32 (of_z w32 d) ≡ d
  d_bits = to_z-of_z w32 d (abs_fits w32 d (2 ^ 28) h (lit< tt))

  q_bits : to_z w32 (of_z w32 (shr_z (to_z w32 (of_z w32 d)) 4096)) ≡ shr_z d 4096
  q_bits = rw d_bits (to_z-of_z w32 (shr_z d 4096) (abs_fits w32 (shr_z d 4096) (2 ^ 28) (shift_size d h) (lit< tt)))

  first_fits : SFits w32 (far_first d)
  first_fits = abs_fits w32 (far_first d) (2 ^ 28 + 4095) (first_size d h) (lit< tt)

  pub multiple_fits : SFits w32 (to_z w32 (of_z w32 (shr_z (to_z w32 (of_z w32 d)) 4096)) *ℤ pos 4096)
  multiple_fits = rw (q_bits, shift_floor d) first_fits

  pub multiple_is : to_z w32 (of_z w32 (to_z w32 (of_z w32 (shr_z (to_z w32 (of_z w32 d)) 4096)) *ℤ pos 4096)) ≡ far_first d
  multiple_is = to_z-of_z w32 _ multiple_fits ∙ rw (q_bits, shift_floor d)

  -- near: the difference itself
  pub near_in : (b : Bool) → (b ≡ true → nat_abs d ≤ 2 ^ 24) → b ≡ true → T (in_float binary32 (to_z w32 (of_z w32 d)))
  near_in b k e = rw d_bits (in_float_lem d (k e))

  pub near_first : (b : Bool) → (b ≡ true → nat_abs d ≤ 2 ^ 24) → b ≡ true → FloatOf (first_part b d) (of_int binary32 (to_z w32 (of_z w32 d)))
  near_first b k e = rw (e, d_bits) (float_of d (whole_carried binary32 d (k e)) (omega arith))

  -- far: its multiple of 4,096, and what is left
  module _ (m : ℤ) (e : m ≡ far_first (to_z w32 (of_z w32 d))) where
    m_is : m ≡ far_first d
    m_is = e ∙ ap far_first d_bits

    multiple_bits : to_z w32 (of_z w32 m) ≡ far_first d
    multiple_bits = rw m_is (to_z-of_z w32 (far_first d) first_fits)

    pub multiple_narrows : T (fits binary32 (of_int binary64 (to_z w32 (of_z w32 m))) && not (is_nan (of_int binary64 (to_z w32 (of_z w32 m)))))
    multiple_narrows = rw multiple_bits (narrows (far_first d) (first_carried d h) (omega (arith, first_size d h)))

    pub far_first_lem : (b : Bool) → b ≡ false → FloatOf (first_part b d) (of_int binary64 (to_z w32 (of_z w32 m)))
    far_first_lem b f = rw (f, multiple_bits) (narrow_float_of (far_first d) (first_carried d h) (omega (arith, first_size d h)))

    pub rest_fits : SFits w32 (to_z w32 (of_z w32 d) -ℤ to_z w32 (of_z w32 m))
    unfolding far_second
    rest_fits = rw (d_bits, multiple_bits) (abs_fits w32 (far_second d) 4095 (second_size d) (lit< tt))

    rest_is : to_z w32 (of_z w32 (to_z w32 (of_z w32 d) -ℤ to_z w32 (of_z w32 m))) ≡ far_second d
    unfolding far_second
    rest_is = to_z-of_z w32 _ rest_fits ∙ rw (d_bits, multiple_bits)

    pub rest_in : T (in_float binary32 (to_z w32 (of_z w32 (to_z w32 (of_z w32 d) -ℤ to_z w32 (of_z w32 m)))))
    rest_in = rw rest_is (in_float_lem (far_second d) (omega (arith, second_size d)))

    pub rest_float : FloatOf (far_second d) (of_int binary32 (to_z w32 (of_z w32 (to_z w32 (of_z w32 d) -ℤ to_z w32 (of_z w32 m)))))
    rest_float =
        rw rest_is (float_of (far_second d) (whole_carried binary32 (far_second d) (omega (arith, second_size d))) (omega (arith, second_size d)))

-- ---- the two cases, of differences by their bits
module _ (x y z : ℤ) (hx : nat_abs x ≤ 2 ^ 28) (hy : nat_abs y ≤ 2 ^ 28) (hz : nat_abs z ≤ 2 ^ 28)
    {t : Bool} (e : t ≡ is_near (bits x) (bits y) (bits z)) where
  pub plain_test : is_near x y z ≡ t
  plain_test = sym (rw (d_bits x hx, d_bits y hy, d_bits z hz) at e)

  near_bits : t ≡ true → (nat_abs (bits x) ≤ 2 ^ 24) × (nat_abs (bits y) ≤ 2 ^ 24) × (nat_abs (bits z) ≤ 2 ^ 24)
  near_bits h = near_all (bits x) (bits y) (bits z) (sym e ∙ h)

  -- what `first` asks of each difference
  pub asked : ((nat_abs (bits x) ≤ 2 ^ 28) × (t ≡ true → nat_abs (bits x) ≤ 2 ^ 24)) × ((nat_abs (bits y) ≤ 2 ^ 28) × (t ≡ true → nat_abs (bits y) ≤ 2 ^ 24))
      × ((nat_abs (bits z) ≤ 2 ^ 28) × (t ≡ true → nat_abs (bits z) ≤ 2 ^ 24))
  asked = ((rw (d_bits x hx) hx, λ h. (near_bits h).0), (rw (d_bits y hy) hy, λ h. (near_bits h).1), (rw (d_bits z hz) hz, λ h. (near_bits h).2))

  reads : (v : ℤ) → nat_abs v ≤ 2 ^ 28 → (part : ℤ → ℤ) {f : Float} → FloatOf (part (bits v)) f → read_back f ≡ part v
  reads v h part g = g.reads ∙ ap part (d_bits v h)

  module _ {p : Floats} (fx : FloatOf (first_part t (bits x)) p.x) (fy : FloatOf (first_part t (bits y)) p.y)
      (fz : FloatOf (first_part t (bits z)) p.z) where
    pub near_split : t ≡ true → SplitTo x y z (Near p)
    near_split h =
        record {
          answers = rw (reads x hx (first_part t) fx, reads y hy (first_part t) fy, reads z hz (first_part t) fz, plain_test, h);
          whole = (fx.whole, fy.whole, fz.whole);
        }

    pub far_split : {q : Floats} → FloatOf (far_second (bits x)) q.x → FloatOf (far_second (bits y)) q.y → FloatOf (far_second (bits z)) q.z
        → t ≡ false → SplitTo x y z (Far p q)
    far_split gx gy gz h =
        record {
          answers = rw (
            reads x hx (first_part t) fx,
            reads y hy (first_part t) fy,
            reads z hz (first_part t) fz,
            reads x hx far_second gx,
            reads y hy far_second gy,
            reads z hz far_second gz,
            plain_test,
            h,
          );
          whole = ((fx.whole, fy.whole, fz.whole), (gx.whole, gy.whole, gz.whole));
        }

-- ---- the chain of checks, and what the call answers
pub chain : (numbers : List ℤ) (point : ℕ) → point_verdict numbers point
    ≡ single 18 (fault18 (length numbers)) (length numbers) or_else lowest_of 19 (length numbers) (fault19 numbers) or_else single 20 (fault20 point) point
unfolding point_verdict net_verdict
chain numbers point = or_else_assoc _ _ _

module _ (numbers : List ℤ) (point : ℕ) {a : Answer} (e : stated a ≡ point_verdict numbers point) where
  pub point_refused : {refusal : Refusal} → a ≡ Err refusal → InFloats numbers point (Err refusal)
  unfolding point_of
  point_refused q =
      record {
        answers =
            ap (λ (w : Verdict). unless w (split (difference numbers point 0) (difference numbers point 1) (difference numbers point 2)))
            (sym (ap stated q) ∙ e);
        whole = tt;
      }

  pub point_split : {u : Unit} → a ≡ Ok u → {x y z : ℤ} → nat_abs x ≤ 2 ^ 28 → nat_abs y ≤ 2 ^ 28 → nat_abs z ≤ 2 ^ 28
      → x ≡ difference numbers point 0 → y ≡ difference numbers point 1 → z ≡ difference numbers point 2
      → {r : FloatPoint} → SplitTo (bits x) (bits y) (bits z) r → InFloats numbers point (Ok r)
  unfolding point_of
  point_split q {x} {y} {z} hx hy hz ex ey ez s =
      let v : point_verdict numbers point ≡ sound = sym e ∙ ap stated q in
      let u = rw (ex, ey, ez) at (rw (d_bits x hx, d_bits y hy, d_bits z hz) at s) in
      record {
        answers =
            u.answers
            ∙ sym (ap (λ (w : Verdict). unless w (split (difference numbers point 0) (difference numbers point 1) (difference numbers point 2))) v);
        whole = u.whole;
      }
