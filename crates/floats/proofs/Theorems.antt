-- What the owner is told of an answer: a far pair is what 02 says of it, the whole-number sum of what comes back is the difference, and there is
-- one answer, to the bit.
use mathlib.Core.Path.{◌≡◌, refl, sym, ap, ◌∙◌}
use mathlib.Core.Bool.{Bool, true, false}
use mathlib.Core.List.{List, [], ◌∷◌}
use Prim.Native.Nat.{ℕ}
use lib.IntN.{ℤ, ◌+ℤ◌}
use lib.Ieee.{Float, binary32, of_int}
use Rattle.paper.specs.Faults.{Verdict, sound, fault, Told}
use Rattle.paper.specs.Floats.{point_verdict, difference, is_near, PointCase, near, far, refused, axes, parts, unless, split, point_of}
use Rattle.paper.specs.Floats.{read_back, WholeFloat, axes_back, AxesWhole, point_stated, AllWhole, InFloats, sums}
use Rattle.std.specs.Prelude.{IfOk, Ok, Err}
use Rattle.paper.specs.Claims.{FarPairs, FloatSums, OneAnswer}
use Rattle.paper.specs.declared.Floats.{Floats}
use Rattle.paper.specs.declared.FloatPoint.{FloatPoint}
use Rattle.paper.specs.declared.FloatPoint.TheVariants.{Near, Far}
use Rattle.paper.specs.declared.Refusal.{Refusal}
use Rattle.floats.proofs.Exact.{far_pair}
use Rattle.floats.proofs.Laws.{point_sound}

pub far_pairs : FarPairs
far_pairs = far_pair

-- ---- sums
added : List ℤ → List ℤ → List ℤ
added [] l = []
added (a ∷ h) [] = []
added (a ∷ h) (b ∷ l) = (a +ℤ b) ∷ added h l

total : PointCase → List ℤ
total (near l) = l
total (far h l) = added h l
total (refused number place) = []

sums_are : (r : Told FloatPoint) → sums r ≡ total (point_stated r)
unfolding total added
sums_are (Ok (Near p)) = refl
sums_are (Ok (Far p q)) = refl
sums_are (Err refusal) = refl

total_parts : (b : Bool) (x y z : ℤ) → total (parts b x y z) ≡ axes x y z
unfolding total added
total_parts true x y z = refl
total_parts false x y z = rw ((far_pair x).sum, (far_pair y).sum, (far_pair z).sum)

pub float_sums : FloatSums
unfolding point_of
float_sums numbers point r c e l =
    let x = difference numbers point 0 in
    let y = difference numbers point 1 in
    let z = difference numbers point 2 in
    sums_are r ∙ ap total c.answers ∙ ap (λ (v : Verdict). total (unless v (split x y z))) (point_sound numbers e point l)
    ∙ total_parts (is_near x y z) x y z

-- ---- one answer
plain_same : (x y : Float) → WholeFloat x → WholeFloat y → read_back x ≡ read_back y → x ≡ y
plain_same x y p q e = p ∙ ap (of_int binary32) e ∙ sym q

floats_same : (p q : Floats) → AxesWhole p → AxesWhole q → axes_back p ≡ axes_back q → p ≡ q
floats_same p q a b e =
    ap {B = Floats} (λ (v : Float). record { x = v; y = p.y; z = p.z }) (plain_same p.x q.x a.0 b.0 (cc))
    ∙ ap {B = Floats} (λ (v : Float). record { x = q.x; y = v; z = p.z }) (plain_same p.y q.y a.1 b.1 (cc))
    ∙ ap {B = Floats} (λ (v : Float). record { x = q.x; y = q.y; z = v }) (plain_same p.z q.z a.2 b.2 (cc))

pub refusals_same : (r s : Refusal) → r.number ≡ s.number → r.place ≡ s.place → r ≡ s
refusals_same r s p q =
    ap {B = Refusal} (λ (n : ℕ). record { number = n; place = r.place }) p ∙ ap {B = Refusal} (λ (n : ℕ). record { number = s.number; place = n }) q

same_answer : (r s : Told FloatPoint) → IfOk r AllWhole → IfOk s AllWhole → point_stated r ≡ point_stated s → r ≡ s
same_answer (Ok (Near p)) (Ok (Near q)) a b e = ap (λ (f : Floats). Ok (Near f)) (floats_same p q a b (cc))
same_answer (Ok (Near p)) (Ok (Far q q')) a b e = cc
same_answer (Ok (Near p)) (Err s) a b e = cc
same_answer (Ok (Far p p')) (Ok (Near q)) a b e = cc
same_answer (Ok (Far p p')) (Ok (Far q q')) a b e =
    ap (λ (f : Floats). Ok (Far f p')) (floats_same p q a.0 b.0 (cc)) ∙ ap (λ (f : Floats). Ok (Far q f)) (floats_same p' q' a.1 b.1 (cc))
same_answer (Ok (Far p p')) (Err s) a b e = cc
same_answer (Err r) (Ok (Near q)) a b e = cc
same_answer (Err r) (Ok (Far q q')) a b e = cc
same_answer (Err r) (Err s) a b e = ap Err (refusals_same r s (cc) (cc))

pub one_answer : OneAnswer
one_answer numbers point r s a b = same_answer r s a.whole b.whole (a.answers ∙ sym b.answers)

-- ---- what an answer tells of the checks
unless_near : (v : Verdict) (s : PointCase) (l : List ℤ) → near l ≡ unless v s → v ≡ sound
unless_near sound s l e = refl
unless_near (fault n p) s l e = cc

unless_far : (v : Verdict) (s : PointCase) (l m : List ℤ) → far l m ≡ unless v s → v ≡ sound
unless_far sound s l m e = refl
unless_far (fault n p) s l m e = cc

unless_fault : (v : Verdict) (b : Bool) (x y z : ℤ) (n p : ℕ) → refused n p ≡ unless v (parts b x y z) → v ≡ fault n p
unless_fault sound true x y z n p e = cc
unless_fault sound false x y z n p e = cc
unless_fault (fault k q) b x y z n p e = cc

module _ (numbers : List ℤ) (point : ℕ) where
  pub near_sound : (p : Floats) → InFloats numbers point (Ok (Near p)) → point_verdict numbers point ≡ sound
  unfolding point_of
  near_sound p c = unless_near (point_verdict numbers point) _ _ c.answers

  pub far_sound : (p q : Floats) → InFloats numbers point (Ok (Far p q)) → point_verdict numbers point ≡ sound
  unfolding point_of
  far_sound p q c = unless_far (point_verdict numbers point) _ _ _ c.answers

  pub refused_fault : (r : Refusal) → InFloats numbers point (Err r) → point_verdict numbers point ≡ fault r.number r.place
  unfolding point_of
  refused_fault r c =
      let x = difference numbers point 0 in
      let y = difference numbers point 1 in
      let z = difference numbers point 2 in
      unless_fault (point_verdict numbers point) (is_near x y z) x y z r.number r.place c.answers
