-- All points of a list of quad-nets: the checks, the six floats of a point, and the lists that are filled with them.
use mathlib.Core.Path.{◌≡◌, refl, sym, ap, ◌∙◌, subst}
use mathlib.Core.Bool.{Bool, true, false, not, ◌||◌}
use mathlib.Core.List.{List, [], ◌∷◌}
use Prim.Native.Nat.{ℕ, zero, suc, ◌+◌, ◌*◌, ◌/◌, ◌%◌, ◌^◌, ◌≤◌, ◌<◌}
use native.Mathlib.Omega.{arith}
use borrow.Author.Tests.{leb-true, ltb-false, eqb-true, not-false}
use lib.Dec.{ltb, eqb, lit≤}
use lib.ListN.{length, get_or, take, drop, set, length-take, length-drop}
use lib.Seq.{get_or-take, get_or-drop}
use lib.IntN.{ℤ, pos, nat_abs}
use lib.Ieee.{Float, binary32, of_int}
use mir.Syntax.{w32}
use mir.Val.{to_z, of_z}
use Rattle.paper.specs.Mesh.{most_corners}
use Rattle.paper.specs.Calls.{per_corner}
use Rattle.paper.specs.File.{no_room, begins}
use Rattle.paper.specs.Faults.{Verdict, sound, ◌or_else◌, single, lowest_of, stated, Answer, done}
use Rattle.std.specs.Prelude.{Err}
use Rattle.paper.specs.declared.Refusal.{Refusal}
use Rattle.paper.specs.Floats.{within, fault19, net_verdict, difference, is_near, split, parts, unless, six_of, point_of, read_back}
use Rattle.std.specs.Prelude.{Err}
use Rattle.paper.specs.declared.Refusal.{Refusal}
use Rattle.paper.specs.Floats.{far_first, far_second, float_number, all_floats, all_verdict, NoneRounded, AllInFloats}
use Rattle.mesh.proofs.Ranges.{none_left, none_right}
use Rattle.mesh.proofs.Verdicts.{sound_left, sound_right, single_sound, lowest_sound}
use Rattle.mesh.proofs.Fills.{filled_step, filled_all}
use Rattle.floats.specs.Exact.{FloatOf, first_part, second_part, FloatsFilled, SixPut, NetPut, six_set}
use Rattle.floats.proofs.Exact.{whole_carried, float_of, first_carried, first_size, second_size}
use Rattle.mesh.proofs.NetLists.{passes}
use Rattle.floats.proofs.Laws.{bits, d_bits, near_all, plain_test, number_le, point_sound, apart}

-- ---- six floats
-- a float of a whole number is the number's
float_is : (z : ℤ) (x : Float) → FloatOf z x → x ≡ of_int binary32 z
float_is z x f = f.whole ∙ ap (of_int binary32) f.reads

pub none_float : FloatOf (pos 0) (of_int binary32 (pos 0))
none_float = float_of (pos 0) (whole_carried binary32 (pos 0) (lit≤ tt)) (omega arith)

pub none_rest : (b : Bool) (d : ℤ) → b ≡ true → FloatOf (second_part b d) (of_int binary32 (pos 0))
none_rest b d e = rw e none_float

pub far_rest : (b : Bool) (d : ℤ) → nat_abs d ≤ 2 ^ 28 → (x : Float) → b ≡ false → FloatOf (far_second (to_z w32 (of_z w32 d))) x → FloatOf (second_part b d) x
far_rest b d h x e f = rw e (rw (d_bits d h) at f)

-- what each of the six is to hold
six_is : (x y z : ℤ) (t : Bool) → t ≡ is_near x y z
    → six_of (split x y z) ≡ first_part t x ∷ first_part t y ∷ first_part t z ∷ second_part t x ∷ second_part t y ∷ second_part t z ∷ []
six_is x y z true e = ap (λ (b : Bool). six_of (parts b x y z)) (sym e)
six_is x y z false e = ap (λ (b : Bool). six_of (parts b x y z)) (sym e)

-- six stores
module _ (f : ℕ → Float) (old : List Float) (at : ℕ) (h : at + 6 ≤ length old) where
  to : (i j : ℕ) (out : List Float) → i ≡ j → FloatsFilled f old i out → FloatsFilled f old j out
  to i j out e q = subst (λ (k : ℕ). FloatsFilled f old k out) e q

  pub six_stores : (before : List Float) (a b c d e g : Float) → a ≡ f at → b ≡ f (at + 1) → c ≡ f (at + 2) → d ≡ f (at + 3) → e ≡ f (at + 4) → g ≡ f (at + 5)
      → FloatsFilled f old at before
      → FloatsFilled f old (at + 6) (set (set (set (set (set (set before at a) (at + 1) b) (at + 2) c) (at + 3) d) (at + 4) e) (at + 5) g)
  six_stores before a b c d e g ea eb ec ed ee eg q =
      let q1 = filled_step f old at before a a (omega arith) q ea in
      let q2 = to (at + 1 + 1) (at + 2) _ (omega arith) (filled_step f old (at + 1) _ b b (omega arith) q1 eb) in
      let q3 = to (at + 2 + 1) (at + 3) _ (omega arith) (filled_step f old (at + 2) _ c c (omega arith) q2 ec) in
      let q4 = to (at + 3 + 1) (at + 4) _ (omega arith) (filled_step f old (at + 3) _ d d (omega arith) q3 ed) in
      let q5 = to (at + 4 + 1) (at + 5) _ (omega arith) (filled_step f old (at + 4) _ e e (omega arith) q4 ee) in
      to (at + 5 + 1) (at + 6) _ (omega arith) (filled_step f old (at + 5) _ g g (omega arith) q5 eg)

-- of differences by their bits
pub bits_size : (d : ℤ) → nat_abs d ≤ 2 ^ 28 → nat_abs (bits d) ≤ 2 ^ 28
bits_size d h = rw (d_bits d h) h

pub six_put : (x y z : ℤ) → nat_abs x ≤ 2 ^ 28 → nat_abs y ≤ 2 ^ 28 → nat_abs z ≤ 2 ^ 28 → {t : Bool} → t ≡ is_near (bits x) (bits y) (bits z)
    → (at : ℕ) (before : List Float) {a b c d e g : Float} → FloatOf (first_part t (bits x)) a → FloatOf (first_part t (bits y)) b → FloatOf (first_part t (bits z)) c
    → FloatOf (second_part t (bits x)) d → FloatOf (second_part t (bits y)) e → FloatOf (second_part t (bits z)) g
    → SixPut x y z at before (six_set before at a b c d e g)
six_put x y z hx hy hz {t} near at before fa fb fc fd fe fg f old h aim q =
    let ex = d_bits x hx in
    let ey = d_bits y hy in
    let ez = d_bits z hz in
    let is : (n : ℕ) (v : ℤ) (w : Float) → n < 6 → get_or (six_of (split x y z)) n (pos 0) ≡ v → FloatOf v w → w ≡ f (at + n) =
    λ n v w l i k. float_is v w k ∙ ap (of_int binary32) (sym i) ∙ sym (aim n l) in
    let l = six_is x y z t (sym (plain_test x y z hx hy hz near)) in
    six_stores f old at h before _ _ _ _ _ _
    (is 0 _ _ (omega arith) (ap (λ (k : List ℤ). get_or k 0 (pos 0)) l) (rw ex at fa) ∙ ap f (let z : at + 0 ≡ at = omega arith in z))
    (is 1 _ _ (omega arith) (ap (λ (k : List ℤ). get_or k 1 (pos 0)) l) (rw ey at fb))
    (is 2 _ _ (omega arith) (ap (λ (k : List ℤ). get_or k 2 (pos 0)) l) (rw ez at fc))
    (is 3 _ _ (omega arith) (ap (λ (k : List ℤ). get_or k 3 (pos 0)) l) (rw ex at fd))
    (is 4 _ _ (omega arith) (ap (λ (k : List ℤ). get_or k 4 (pos 0)) l) (rw ey at fe))
    (is 5 _ _ (omega arith) (ap (λ (k : List ℤ). get_or k 5 (pos 0)) l) (rw ez at fg)) q

-- ---- one quad-net, point by point
-- the net's floats before point p are written
abbrev pub NetTo : List ℤ → ℕ → ℕ → List Float → List Float → Type 0
NetTo net at p before out =
    (f : ℕ → Float) (old : List Float) → at + 246 ≤ length old → ((x : ℕ) → x < 246 → f (at + x) ≡ of_int binary32 (get_or (six_of (point_of net (x / 6))) (x % 6) (pos 0)))
    → FloatsFilled f old at before → FloatsFilled f old (at + 6 * p) out

module _ (net : List ℤ) (s : net_verdict net ≡ sound) where
  pub point_six : (p : ℕ) → p ≤ 40 → six_of (point_of net p) ≡ six_of (split (difference net p 0) (difference net p 1) (difference net p 2))
  unfolding point_of
  point_six p h =
      ap (λ (w : Verdict). six_of (unless w (split (difference net p 0) (difference net p 1) (difference net p 2)))) (point_sound net s p h)

  pub net_step : (at p : ℕ) (before mid out : List Float) → p ≤ 40 → {x y z : ℤ} → x ≡ difference net p 0 → y ≡ difference net p 1 → z ≡ difference net p 2
      → NetTo net at p before mid → SixPut x y z (at + 6 * p) mid out → NetTo net at (p + 1) before out
  net_step at p before mid out h {x} {y} {z} ex ey ez n six f old room aim q =
      let k : at + 6 * p + 6 ≡ at + 6 * (p + 1) = omega arith in
      subst (λ (i : ℕ). FloatsFilled f old i out) k
      (six f old (omega arith)
      (λ e l.
      let i : at + 6 * p + e ≡ at + (6 * p + e) = omega arith in
      let d : (6 * p + e) / 6 ≡ p = omega arith in
      let m : (6 * p + e) % 6 ≡ e = omega arith in
      ap f i ∙ aim (6 * p + e) (omega arith)
      ∙ ap (of_int binary32) (ap (λ (u : ℕ). get_or (six_of (point_of net u)) ((6 * p + e) % 6) (pos 0)) d ∙ ap (λ (u : ℕ). get_or (six_of (point_of net p)) u (pos 0)) m
      ∙ ap (λ (u : List ℤ). get_or u e (pos 0)) (point_six p h ∙ same ex ey ez)))
      (n f old room aim q))
    where
      same : x ≡ difference net p 0 → y ≡ difference net p 1 → z ≡ difference net p 2
          → six_of (split (difference net p 0) (difference net p 1) (difference net p 2)) ≡ six_of (split x y z)
      same u v w = rw (u, v, w)

-- ---- the list's quad-nets
-- the floats of the quad-nets before t are written
abbrev pub FloatsTo : List ℤ → List Float → ℕ → List Float → Type 0
FloatsTo numbers old t out = FloatsFilled (λ x. of_int binary32 (float_number numbers x)) old (246 * t) out

module _ (numbers : List ℤ) (room : ℕ) (s : all_verdict numbers room ≡ sound) where
  no_fault18 : (not (eqb (length numbers % per_corner) 0) || ltb (per_corner * most_corners) (length numbers)) ≡ false
  unfolding all_verdict
  no_fault18 = single_sound 18 _ _ (sound_left _ _ s)

  pub nets_whole : length numbers % 123 ≡ 0
  nets_whole = eqb-true (length numbers % 123) 0 (not-false (eqb (length numbers % 123) 0) (none_left _ _ no_fault18))

  pub nets_few : length numbers ≤ 123 * 8192
  nets_few = ltb-false (123 * 8192) (length numbers) (none_right (not (eqb (length numbers % per_corner) 0)) _ no_fault18)

  pub nets_room : 2 * length numbers ≤ room
  unfolding all_verdict
  nets_room = ltb-false room (2 * length numbers) (single_sound no_room _ _ (sound_right _ _ (sound_right _ _ s)))

  each_small : (i : ℕ) → i < length numbers → nat_abs (get_or numbers i (pos 0)) ≤ 2 ^ 27
  unfolding all_verdict fault19
  each_small i h =
      leb-true (nat_abs (get_or numbers i (pos 0))) (2 ^ 27)
      (not-false (within (2 ^ 27) (get_or numbers i (pos 0))) (lowest_sound 19 (length numbers) (fault19 numbers) (sound_left _ _ (sound_right _ _ s)) i h))

  abbrev pub net_at : ℕ → List ℤ
  net_at t = take per_corner (drop (per_corner * t) numbers)

  pub net_passes : (t : ℕ) → t < length numbers / 123 → net_verdict (net_at t) ≡ sound
  net_passes t l =
      let n : length (net_at t) ≡ per_corner =
      length-take per_corner (drop (per_corner * t) numbers) ∙ omega (arith, length-drop (per_corner * t) numbers) in
      passes (net_at t) n λ j h.
      subst (λ (z : ℤ). nat_abs z ≤ 2 ^ 27)
      (sym (get_or-take per_corner (drop (per_corner * t) numbers) j (pos 0) h ∙ get_or-drop (per_corner * t) numbers j (pos 0)))
      (each_small (per_corner * t + j) (omega arith))

  abbrev pub float_at : ℕ → Float
  float_at x = of_int binary32 (float_number numbers x)

  pub float_at_lem : (t x : ℕ) → x < 246 → float_at (246 * t + x) ≡ of_int binary32 (get_or (six_of (point_of (net_at t) (x / 6))) (x % 6) (pos 0))
  unfolding float_number
  float_at_lem t x h =
      let a : (246 * t + x) / 246 ≡ t = omega arith in
      let b : (246 * t + x) % 246 ≡ x = omega arith in
      let c : (246 * t + x) % 6 ≡ x % 6 = omega arith in
      ap (of_int binary32)
      (ap (λ (u : ℕ). get_or (six_of (point_of (net_at u) ((246 * t + x) % 246 / 6))) ((246 * t + x) % 6) (pos 0)) a
      ∙ ap (λ (u : ℕ). get_or (six_of (point_of (net_at t) (u / 6))) ((246 * t + x) % 6) (pos 0)) b
      ∙ ap (λ (u : ℕ). get_or (six_of (point_of (net_at t) (x / 6))) u (pos 0)) c)

  pub nets_step : (t : ℕ) (old mid out : List Float) → length old ≡ room → t < length numbers / 123 → (net : List ℤ) → net ≡ net_at t
      → (at : ℕ) → at ≡ 246 * t → FloatsTo numbers old t mid → NetPut net at mid out → FloatsTo numbers old (t + 1) out
  nets_step t old mid out e l net is at there q put =
      let k : 246 * t + 246 ≡ 246 * (t + 1) = omega arith in
      subst (λ (i : ℕ). FloatsFilled float_at old i out) k
      (subst (λ (i : ℕ). NetPut net i mid out) there put float_at old (omega (arith, nets_room))
      (λ x h. float_at_lem t x h ∙ ap (λ (u : List ℤ). of_int binary32 (get_or (six_of (point_of u (x / 6))) (x % 6) (pos 0))) (sym is)) q)

  pub nets_all : (t : ℕ) (old out : List Float) → t ≡ length numbers / 123 → FloatsTo numbers old t out → out ≡ begins (all_floats numbers) old
  unfolding all_floats
  nets_all t old out e q = filled_all float_at old (246 * t) (2 * length numbers) out (omega (arith, nets_whole)) q

  -- ---- none is rounded
  reads : (z : ℤ) → nat_abs z ≤ 2 ^ 24 → read_back (of_int binary32 z) ≡ z
  reads z h = (float_of z (whole_carried binary32 z h) (omega arith)).reads

  first_reads : (d : ℤ) → nat_abs d ≤ 2 ^ 28 → read_back (of_int binary32 (far_first d)) ≡ far_first d
  first_reads d h = (float_of (far_first d) (first_carried d h) (omega (arith, first_size d h))).reads

  second_reads : (d : ℤ) → read_back (of_int binary32 (far_second d)) ≡ far_second d
  second_reads d = reads (far_second d) (omega (arith, second_size d))

  six_reads : (x y z : ℤ) → nat_abs x ≤ 2 ^ 28 → nat_abs y ≤ 2 ^ 28 → nat_abs z ≤ 2 ^ 28 → (t : Bool) → is_near x y z ≡ t → (e : ℕ) → e < 6
      → read_back (of_int binary32 (get_or (six_of (parts t x y z)) e (pos 0))) ≡ get_or (six_of (parts t x y z)) e (pos 0)
  six_reads x y z hx hy hz true n zero l = reads x (near_all x y z n).0
  six_reads x y z hx hy hz true n (suc zero) l = reads y (near_all x y z n).1
  six_reads x y z hx hy hz true n (suc (suc zero)) l = reads z (near_all x y z n).2
  six_reads x y z hx hy hz true n (suc (suc (suc zero))) l = reads (pos 0) (lit≤ tt)
  six_reads x y z hx hy hz true n (suc (suc (suc (suc zero)))) l = reads (pos 0) (lit≤ tt)
  six_reads x y z hx hy hz true n (suc (suc (suc (suc (suc zero))))) l = reads (pos 0) (lit≤ tt)
  six_reads x y z hx hy hz true n (suc (suc (suc (suc (suc (suc e)))))) l = absurd (omega arith)
  six_reads x y z hx hy hz false n zero l = first_reads x hx
  six_reads x y z hx hy hz false n (suc zero) l = first_reads y hy
  six_reads x y z hx hy hz false n (suc (suc zero)) l = first_reads z hz
  six_reads x y z hx hy hz false n (suc (suc (suc zero))) l = second_reads x
  six_reads x y z hx hy hz false n (suc (suc (suc (suc zero)))) l = second_reads y
  six_reads x y z hx hy hz false n (suc (suc (suc (suc (suc zero))))) l = second_reads z
  six_reads x y z hx hy hz false n (suc (suc (suc (suc (suc (suc e)))))) l = absurd (omega arith)

  difference_size : (net : List ℤ) → net_verdict net ≡ sound → (p axis : ℕ) → p ≤ 40 → axis < 3 → nat_abs (difference net p axis) ≤ 2 ^ 28
  unfolding difference
  difference_size net e p axis h a =
      apart (get_or net (3 * p + axis) (pos 0)) (get_or net axis (pos 0)) (number_le net e (3 * p + axis) (omega arith)) (number_le net e axis (omega arith))

  pub none_rounded : NoneRounded numbers
  unfolding float_number
  none_rounded x h =
      let t = x / 246 in
      let p = x % 246 / 6 in
      let net = net_at t in
      let inside : t < length numbers / 123 = omega (arith, nets_whole) in
      let low : p ≤ 40 = omega arith in
      let e = net_passes t inside in
      let d = difference_size net e p in
      subst (λ (l : List ℤ). read_back (of_int binary32 (get_or l (x % 6) (pos 0))) ≡ get_or l (x % 6) (pos 0)) (sym (point_six net e p low))
      (six_reads (difference net p 0) (difference net p 1) (difference net p 2) (d 0 low (omega arith)) (d 1 low (omega arith)) (d 2 low (omega arith)) _ refl (x % 6)
      (omega arith))

-- ---- what the call answers
module _ (numbers : List ℤ) (old : List Float) where
  pub all_refused : {a : Answer} {refusal : Refusal} → stated a ≡ all_verdict numbers (length old) → a ≡ Err refusal → AllInFloats numbers old (Err refusal) old
  all_refused {refusal = r} e q =
      let v : stated {A = Unit} (Err r) ≡ all_verdict numbers (length old) = sym (ap stated q) ∙ e in
      record { answers = v; holds = refl; exact = λ s. none_rounded numbers (length old) (sym v ∙ s) }

  pub all_done : {out : List Float} → all_verdict numbers (length old) ≡ sound → out ≡ begins (all_floats numbers) old → AllInFloats numbers old done out
  all_done e h = record { answers = sym e; holds = h; exact = λ s. none_rounded numbers (length old) e }

-- the chain of the checks
pub all_chain : (numbers : List ℤ) (room : ℕ) → all_verdict numbers room
    ≡ single 18 (not (eqb (length numbers % per_corner) 0) || ltb (per_corner * most_corners) (length numbers)) (length numbers)
    or_else lowest_of 19 (length numbers) (fault19 numbers) or_else single no_room (ltb room (2 * length numbers)) (2 * length numbers)
unfolding all_verdict
all_chain numbers room = refl

-- 18 bounds the length
module _ (n : ℕ) where
  pub few_of : single 18 (not (eqb (n % per_corner) 0) || ltb (per_corner * most_corners) n) n ≡ sound → n ≤ 1007616
  few_of e = ltb-false 1007616 n (none_right (not (eqb (n % per_corner) 0)) _ (single_sound 18 _ _ e))
