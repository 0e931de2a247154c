-- The theorems of L12: closing along common sides and rays, the ends, the bounds, and a triangle's samples one by one.
use mathlib.Core.Path.{◌≡◌, refl, sym, ap, ◌∙◌, subst}
use mathlib.Core.Bool.{false, not}
use mathlib.Core.List.{List, [], ◌++◌, append_assoc, append-nil}
use Prim.Native.Nat.{ℕ, zero, suc, ◌+◌, ◌-◌, ◌*◌, ◌^◌, ◌≤◌, ◌<◌}
use native.Mathlib.Omega.{arith}
use borrow.Author.Tests.{eq-eqb}
use lib.Dec.{eqb}
use lib.ListN.{length, get_or, take, drop, length-append}
use lib.Seq.{get_or-take, get_or-drop, drop-append_seam}
use lib.IntN.{ℤ, pos, ◌*ℤ◌}
use lib.Signed.{◌≤ℤ◌}
use Rattle.std.specs.Prelude.{Ok, Err}
use Rattle.floats.proofs.Theorems.{refusals_same}
use Rattle.paper.specs.Faults.{Verdict, sound, ◌or_else◌, single, outside, stated, kept, Answer, done}
use Rattle.paper.specs.Numbers.{round}
use Rattle.paper.specs.Mesh.{Mesh}
use Rattle.paper.specs.Net.{Side, side0, side1, side2, side3, across, at_head, at_tail, outer_row}
use Rattle.paper.specs.Calls.{per_corner}
use Rattle.paper.specs.File.{begins}
use Rattle.paper.specs.Floats.{net_verdict, axes}
use Rattle.paper.specs.Borders.{Output, Wrote, Holds, beside, written}
use Rattle.paper.specs.Sampling.{control, Weights, weights, on_axis, bernstein_sum, sample_at, sample_point, fault32, most_parts, fault33, sample_verdict, side_at}
use Rattle.paper.specs.Sampling.{Sampled, row_samples, first_rows, triangle_samples, side_number, net_in, Alike, control_point, Leaves, Between, row_start}
use Rattle.paper.specs.Claims.{SamplesClose, RaysAgree, SampleEnds, SamplesBetween, TrianglesSample}
use Rattle.mesh.proofs.Ranges.{inside, or_none}
use Rattle.mesh.proofs.Verdicts.{or_else_sound, single_miss, sound_left}
use Rattle.borders.proofs.Nets.{nets_pass}
use Rattle.borders.proofs.Theorem.{demand3}
use Rattle.bernstein.specs.Sums.{rows_of}
use Rattle.bernstein.proofs.Laws.{round_between}
use Rattle.bernstein.proofs.Sum.{bernstein_is, sum_from, sum_to, head_alone, tail_alone, centre_alone}
use Rattle.bernstein.proofs.Samples.{side_back, side_number_lem, head_number, tail_number, positive, multiple_number}
use Rattle.sampling.specs.Grid.{samples_before}
use Rattle.sampling.proofs.Laws.{some_parts, few_parts, parts_sum, net_passed, side_passed, all_passed, triangle_chain}
use Rattle.sampling.proofs.Lists.{row_start_lem, below_or_last}

-- ---- answers
pub same_answer : (r r' : Answer) → stated r ≡ stated r' → r ≡ r'
same_answer (Ok u) (Ok u') e = refl
same_answer (Ok u) (Err r) e = let z : ◌≡◌ {A = ℕ} 0 1 = cc in absurd (omega arith)
same_answer (Err r) (Ok u) e = let z : ◌≡◌ {A = ℕ} 0 1 = cc in absurd (omega arith)
same_answer (Err r) (Err r') e = ap Err (refusals_same r r' (cc) (cc))

no_fault32 : (s : Side) → fault32 (side_number s) ≡ false
unfolding fault32
no_fault32 side0 = refl
no_fault32 side1 = refl
no_fault32 side2 = refl
no_fault32 side3 = refl

-- of a side's own number 32 is no fault
pub verdict_is : (numbers : List ℤ) (s : Side) (w : Weights)
    → sample_verdict numbers (side_number s) w ≡ net_verdict numbers or_else single 33 (fault33 w) w.parts
unfolding sample_verdict
verdict_is numbers s w =
    ap (λ (v : Verdict). net_verdict numbers or_else v) (or_else_sound (single 33 (fault33 w) w.parts) (single_miss 32 (side_number s) (no_fault32 s)))

-- what a call that is done leaves
left : (numbers : List ℤ) (side : ℕ) (w : Weights) (old out : List ℤ) (r : Answer) → Sampled numbers side w old r out → r ≡ done
    → out ≡ sample_point numbers (side_at side) w
left numbers side w old out r c e = c.holds ∙ ap (λ (a : Answer). kept (stated a) (sample_point numbers (side_at side) w) old) e

alike : (net other : List ℤ) (s t : Side) (w : Weights) → net_verdict net ≡ net_verdict other → sample_point net s w ≡ sample_point other t w
    → Alike net s other t w
alike net other s t w e q old old' out out' r r' c c' =
    let v : stated r ≡ stated r' =
    c.answers ∙ verdict_is net s w ∙ ap (λ (x : Verdict). x or_else single 33 (fault33 w) w.parts) e ∙ sym (c'.answers ∙ verdict_is other t w) in
    let a = same_answer r r' v in (
      a,
      λ d. left net (side_number s) w old out r c d ∙ ap (λ (x : Side). sample_point net x w) (side_back s) ∙ q
          ∙ sym (left other (side_number t) w old' out' r' c' (sym a ∙ d) ∙ ap (λ (x : Side). sample_point other x w) (side_back t)),
    )

same_point : (net other : List ℤ) (s t : Side) (w : Weights) → ((axis : ℕ) → axis < 3 → sample_at net s w axis ≡ sample_at other t w axis)
    → sample_point net s w ≡ sample_point other t w
unfolding sample_point
same_point net other s t w h = rw (h 0 (omega arith), h 1 (omega arith), h 2 (omega arith))

-- ---- closing
-- the numbers of a corner in an output
module _ (O : Output) (c axis : ℕ) (a : axis < 3) where
  net_at_lem : (k : ℕ) → k < 41 → on_axis (net_in O c) axis k ≡ written O axis c k
  unfolding written
  net_at_lem k h =
      get_or-take per_corner (drop (per_corner * (c - O.first)) O.numbers) (3 * k + axis) (pos 0) (omega arith)
      ∙ get_or-drop (per_corner * (c - O.first)) O.numbers (3 * k + axis) (pos 0) ∙ ap (λ (x : ℕ). get_or O.numbers x (pos 0))
      (let e : per_corner * (c - O.first) + (3 * k + axis) ≡ per_corner * (c - O.first) + 3 * k + axis = omega arith in e)

  pub outer_at : (s : Side) (m : ℕ) → m < 5 → outer_row (on_axis (net_in O c) axis) s m ≡ outer_row (written O axis c) s m
  outer_at side0 m h = net_at_lem _ (omega arith)
  outer_at side1 m h = net_at_lem _ (omega arith)
  outer_at side2 m h = net_at_lem _ (omega arith)
  outer_at side3 m h = net_at_lem _ (omega arith)

pub net_passes : (M : Mesh) (O : Output) → Wrote M O → (c : ℕ) → Holds O c → net_verdict (net_in O c) ≡ sound
net_passes M O w c h = nets_pass M w.links O.first O.count w.old O.numbers w.call (c - O.first) (omega (arith, h.0, h.1))

pub samples_close : SamplesClose
samples_close M A B wA wB c s hA hB i j N =
    let d = beside M c s in
    let w = weights i j 0 N in
    alike (net_in A c) (net_in B d) s (across s) w (net_passes M A wA c hA ∙ sym (net_passes M B wB d hB))
    (same_point (net_in A c) (net_in B d) s (across s) w
    (λ axis a. side_number_lem (net_in A c) (net_in B d) s (across s) i j N axis
    (λ m l. outer_at A c axis a s m l ∙ (demand3 M A B wA wB c s hA hB axis a).curve m l ∙ sym (outer_at B d axis a (across s) m l))))

-- ---- the rays
pub rays_agree : RaysAgree
rays_agree numbers s i j k N = (
  alike numbers numbers s (at_head s) (weights i 0 k N) refl
      (same_point numbers numbers s (at_head s) (weights i 0 k N) (λ axis a. head_number numbers s i k N axis)),
  alike numbers numbers s (at_tail s) (weights 0 j k N) refl
      (same_point numbers numbers s (at_tail s) (weights 0 j k N) (λ axis a. tail_number numbers s j k N axis)),
)

-- ---- the ends
-- a sample whose sums are the multiple by N^4 of numbers is these numbers
module _ (numbers : List ℤ) (s : Side) (i j k N n q : ℕ) (h : (p : ℕ → ℤ) → bernstein_sum p s i j k ≡ pos (N ^ 4) *ℤ control p s n q) where
  multiple_point : 1 ≤ N → sample_point numbers s (weights i j k N) ≡ control_point numbers s n q
  unfolding sample_point
  multiple_point some = rw (
    multiple_number numbers s i j k N n q h some 0,
    multiple_number numbers s i j k N n q h some 1,
    multiple_number numbers s i j k N n q h some 2,
  )

  multiple : Leaves numbers s (weights i j k N) (control_point numbers s n q)
  multiple old out c =
      left numbers (side_number s) (weights i j k N) old out done c refl ∙ ap (λ (x : Side). sample_point numbers x (weights i j k N)) (side_back s)
      ∙ multiple_point (some_parts numbers (side_number s) i j k N (sym c.answers))

pub sample_ends : SampleEnds
sample_ends numbers s N = (
  multiple numbers s N 0 0 N 0 0 (λ p. bernstein_is p s N 0 0 ∙ head_alone (rows_of (control p s)) N),
  multiple numbers s 0 N 0 N 0 4 (λ p. bernstein_is p s 0 N 0 ∙ tail_alone (rows_of (control p s)) N),
  multiple numbers s 0 0 N N 4 0 (λ p. bernstein_is p s 0 0 N ∙ centre_alone (rows_of (control p s)) N),
)

-- ---- the bounds
sum_between : (p : ℕ → ℤ) (s : Side) (i j k N : ℕ) → i + j + k ≡ N → 1 ≤ N → Between p s (round (bernstein_sum p s i j k) (pos (N ^ 4)))
sum_between p s i j k N e some low high h =
    round_between (bernstein_sum p s i j k) (pos (N ^ 4)) low high (positive N some)
    (subst (λ (m : ℕ). (pos (m ^ 4) *ℤ low) ≤ℤ bernstein_sum p s i j k) e (sum_from p s i j k low high h))
    (subst (λ (m : ℕ). bernstein_sum p s i j k ≤ℤ (pos (m ^ 4) *ℤ high)) e (sum_to p s i j k low high h))

point_at_lem : (numbers : List ℤ) (s : Side) (w : Weights) (axis : ℕ) → axis < 3 → get_or (sample_point numbers s w) axis (pos 0) ≡ sample_at numbers s w axis
unfolding sample_point
point_at_lem numbers s w zero h = refl
point_at_lem numbers s w (suc zero) h = refl
point_at_lem numbers s w (suc (suc zero)) h = refl
point_at_lem numbers s w (suc (suc (suc axis))) h = absurd (omega arith)

number_between : (numbers : List ℤ) (s : Side) (w : Weights) (axis : ℕ) → 1 ≤ w.parts → w.head + w.tail + w.centre ≡ w.parts
    → Between (on_axis numbers axis) s (sample_at numbers s w axis)
unfolding sample_at
number_between numbers s w axis some q = sum_between (on_axis numbers axis) s w.head w.tail w.centre w.parts q some

pub samples_between : SamplesBetween
samples_between numbers s w old out c axis a =
    let e = sym c.answers in
    let some = some_parts numbers (side_number s) w.head w.tail w.centre w.parts e in
    let q = parts_sum numbers (side_number s) w.head w.tail w.centre w.parts e in
    let is : get_or out axis (pos 0) ≡ sample_at numbers s w axis =
    ap (λ (l : List ℤ). get_or l axis (pos 0)) (left numbers (side_number s) w old out done c refl ∙ ap (λ (x : Side). sample_point numbers x w) (side_back s))
    ∙ point_at_lem numbers s w axis a in
    subst (λ (z : ℤ). Between (on_axis numbers axis) s z) (sym is) (number_between numbers s w axis some q)

-- ---- a sample within the list of a triangle
pub record Split (l part : List ℤ) (m : ℕ) : Type 0 where
  pub front : List ℤ
  pub back : List ℤ
  pub is : l ≡ front ++ (part ++ back)
  pub long : length front ≡ m

split_more : (l part : List ℤ) (m : ℕ) (x : List ℤ) → Split l part m → Split (l ++ x) part m
split_more l part m x s = record {
  front = s.front;
  back = s.back ++ x;
  is =
      ap (λ (y : List ℤ). y ++ x) s.is ∙ append_assoc s.front (part ++ s.back) x
      ∙ ap (λ (y : List ℤ). s.front ++ y) (append_assoc part s.back x);
  long = s.long;
}

split_after : (l part : List ℤ) (m k : ℕ) (x : List ℤ) → length x ≡ k → Split l part m → Split (x ++ l) part (k + m)
split_after l part m k x e s = record {
  front = x ++ s.front;
  back = s.back;
  is = ap (λ (y : List ℤ). x ++ y) s.is ∙ sym (append_assoc x s.front (part ++ s.back));
  long = length-append x s.front ∙ omega (arith, s.long);
}

module _ (numbers : List ℤ) (s : Side) (n : ℕ) where
  three : (w : Weights) → length (sample_point numbers s w) ≡ 3
  unfolding sample_point
  three w = refl

  row_long : (k c : ℕ) → length (row_samples numbers s n k c) ≡ 3 * c
  unfolding row_samples
  row_long k zero = refl
  row_long k (suc c) =
      length-append (row_samples numbers s n k c) (sample_point numbers s (weights (n - k - c) c k n))
      ∙ omega (arith, row_long k c, three (weights (n - k - c) c k n))

  rows_long : (k : ℕ) → length (first_rows numbers s n k) ≡ 3 * samples_before n k
  unfolding first_rows samples_before
  rows_long zero = refl
  rows_long (suc k) = length-append (first_rows numbers s n k) (row_samples numbers s n k (n - k + 1)) ∙ omega (arith, rows_long k, row_long k (n - k + 1))

  in_row_lem : (k j c : ℕ) → j < c → Split (row_samples numbers s n k c) (sample_point numbers s (weights (n - k - j) j k n)) (3 * j)
  unfolding row_samples
  in_row_lem k j zero h = absurd (omega arith)
  in_row_lem k j (suc c) h =
      below_or_last j c (omega arith)
      (λ l. split_more (row_samples numbers s n k c) _ (3 * j) (sample_point numbers s (weights (n - k - c) c k n)) (in_row_lem k j c l))
      (λ e. record {
        front = row_samples numbers s n k c;
        back = [];
        is =
            ap (λ (x : ℕ). row_samples numbers s n k c ++ sample_point numbers s (weights (n - k - x) x k n)) (sym e)
            ∙ ap (λ (y : List ℤ). row_samples numbers s n k c ++ y) (sym (append-nil (sample_point numbers s (weights (n - k - j) j k n))));
        long = row_long k c ∙ omega arith;
      })

  in_rows : (k j r : ℕ) → k < r → k + j ≤ n → Split (first_rows numbers s n r) (sample_point numbers s (weights (n - k - j) j k n)) (3 * (samples_before n k + j))
  unfolding first_rows
  in_rows k j zero h l = absurd (omega arith)
  in_rows k j (suc r) h l =
      below_or_last k r (omega arith)
      (λ o. split_more (first_rows numbers s n r) _ (3 * (samples_before n k + j)) (row_samples numbers s n r (n - r + 1)) (in_rows k j r o l))
      (λ e. subst
      (λ (x : ℕ). Split (first_rows numbers s n r ++ row_samples numbers s n r (n - r + 1)) (sample_point numbers s (weights (n - x - j) j x n))
      (3 * (samples_before n x + j)))
      (sym e)
      (subst (λ (x : ℕ). Split (first_rows numbers s n r ++ row_samples numbers s n r (n - r + 1)) (sample_point numbers s (weights (n - r - j) j r n)) x)
      (let f : 3 * samples_before n r + 3 * j ≡ 3 * (samples_before n r + j) = omega arith in f)
      (split_after (row_samples numbers s n r (n - r + 1)) _ (3 * j) (3 * samples_before n r) (first_rows numbers s n r) (rows_long r)
      (in_row_lem r j (n - r + 1) (omega arith)))))

-- three numbers at their place
taken : (l : List ℤ) (x y z : ℤ) (m : ℕ) → Split l (axes x y z) m → take 3 (drop m l) ≡ axes x y z
taken l x y z m s =
    ap (λ (k : ℕ). take 3 (drop k l)) (sym s.long) ∙ ap (λ (y' : List ℤ). take 3 (drop (length s.front) y')) s.is
    ∙ ap (take 3) (drop-append_seam s.front (axes x y z ++ s.back))

sample_taken : (numbers : List ℤ) (s : Side) (w : Weights) (l : List ℤ) (m : ℕ) → Split l (sample_point numbers s w) m
    → take 3 (drop m l) ≡ sample_point numbers s w
unfolding sample_point
sample_taken numbers s w l m t = taken l (sample_at numbers s w 0) (sample_at numbers s w 1) (sample_at numbers s w 2) m t

pub triangles_sample : TrianglesSample
unfolding triangle_samples fault33
triangles_sample numbers side N old out t i j k e old' point r c =
    let first = sound_left _ _ (triangle_chain numbers side N (length old) ∙ sym t.answers) in
    let few = few_parts numbers side N 0 0 N first in
    let some = some_parts numbers side N 0 0 N first in
    let no33 : fault33 (weights i j k N) ≡ false =
    or_none (outside 1 most_parts N) (not (eqb (i + j + k) N)) (inside 1 most_parts N some few) (ap not (eq-eqb (i + j + k) N e)) in
    let v = all_passed numbers side (weights i j k N) (net_passed numbers side N 0 0 N first) (side_passed numbers side N 0 0 N first) no33 in
    let d = same_answer r done (c.answers ∙ sym v) in
    let split = split_more (first_rows numbers (side_at side) N (N + 1)) _ (3 * (samples_before N k + j)) _
    (in_rows numbers (side_at side) N k j (N + 1) (omega arith) (omega arith)) in
    let w : weights (N - k - j) j k N ≡ weights i j k N = ap (λ (x : ℕ). weights x j k N) (let f : N - k - j ≡ i = omega arith in f) in (
      d,
      left numbers side (weights i j k N) old' point r c d
          ∙ sym (ap (λ (l : List ℤ). take 3 (drop (3 * (row_start N k + j)) l)) t.holds
          ∙ ap (λ (m : ℕ). take 3 (drop (3 * (m + j)) (begins (first_rows numbers (side_at side) N (N + 1)) old))) (row_start_lem N k (omega arith))
          ∙ sample_taken numbers (side_at side) (weights (N - k - j) j k N) _ (3 * (samples_before N k + j)) split
          ∙ ap (sample_point numbers (side_at side)) w),
    )
