-- The samples of a triangle as they come into the list: number by number along a row, row by row, axis by axis.
use mathlib.Core.Path.{◌≡◌, refl, sym, ap, ◌∙◌, subst}
use mathlib.Core.Logic.{⊎_elim}
use mathlib.Core.List.{List, [], ◌∷◌, ◌++◌, append_assoc, append-nil}
use Prim.Native.Nat.{ℕ, zero, suc, ◌+◌, ◌-◌, ◌*◌, ◌^◌, ◌≤◌, ◌<◌}
use native.Mathlib.Numerals.{add-one}
use native.Mathlib.Omega.{arith}
use lib.ListN.{length, get_or, set, take, drop, length-set, length-drop, take-append-drop}
use lib.Seq.{get_or-set_same, get_or-set_other, take-suc, length-take-le, ext_get_or, get_or-drop}
use lib.IntN.{ℤ, pos, nat_abs}
use Rattle.paper.specs.Numbers.{round}
use Rattle.paper.specs.Faults.{sound}
use Rattle.paper.specs.Net.{Side}
use Rattle.paper.specs.File.{begins}
use Rattle.paper.specs.Floats.{net_verdict, axes}
use Rattle.paper.specs.Sampling.{control, weights, on_axis, sample_at, sample_point, side_at, row_samples, first_rows, triangle_samples, sample_count, row_start}
use Rattle.mesh.proofs.Scans.{compared}
use Rattle.bernstein.specs.declared.Vector5.{Vector5}
use Rattle.bernstein.specs.declared.Matrix5.{Matrix5}
use Rattle.bernstein.specs.Sums.{Tapered, AllTapered, rows_of, polynomial_of, row_of, polynomial_at, quartic_sum}
use Rattle.bernstein.proofs.Identity.{polynomial_sum}
use Rattle.bernstein.proofs.Laws.{row_tapers}
use Rattle.bernstein.proofs.Sum.{bernstein_is}
use Rattle.sampling.specs.Grid.{samples_before, Sampleable, RowSampleable, RowPut, RowsPut}

pub below_or_last : {A : Type 0} (j k : ℕ) → j < k + 1 → (j < k → A) → (j ≡ k → A) → A
below_or_last j k h f g = ⊎_elim (λ e. g e) (λ o. ⊎_elim (λ l. f l) (λ l. absurd (omega arith)) o) (compared j k)

-- ---- a row
pub row_none : (e : Vector5) (n first from : ℕ) (old : List ℤ) → RowPut e n first 0 from old old
row_none e n first from old = record { same = refl; values = λ j l. absurd (omega arith); others = λ t h. refl }

module _ (e : Vector5) (n first j from : ℕ) (old mid : List ℤ) (v : ℤ) (m : RowPut e n first j from old mid) (room : from + 3 * j < length mid)
    (is : v ≡ round (polynomial_at e (first + j)) (pos (n ^ 4))) where
  pub row_step : RowPut e n first (j + 1) from old (set mid (from + 3 * j) v)
  row_step = record {
    same = length-set mid (from + 3 * j) v ∙ m.same;
    values = λ i l. below_or_last i j l
        (λ h. get_or-set_other mid (from + 3 * j) (from + 3 * i) v (pos 0) (λ q. omega arith) ∙ m.values i h)
        (λ q. rw q (get_or-set_same mid (from + 3 * j) v (pos 0) room ∙ is));
    others = λ t h.
        get_or-set_other mid (from + 3 * j) t v (pos 0) (λ q. h j (omega arith) q)
        ∙ m.others t (λ i l q. h i (omega arith) q);
  }

pub from_none : (j : ℕ) → 0 + j ≡ j
from_none j = omega arith

-- ---- rows
pub before_next : (n k : ℕ) → samples_before n (k + 1) ≡ samples_before n k + (n - k + 1)
unfolding samples_before
before_next n k = ap (samples_before n) (add-one k)

pub before_le : (n k r : ℕ) → k < r → samples_before n k + (n - k + 1) ≤ samples_before n r
unfolding samples_before
before_le n k zero h = absurd (omega arith)
before_le n k (suc r) h =
    ⊎_elim (λ (e : k ≡ r). rw e (let q : samples_before n r + (n - r + 1) ≤ samples_before n r + (n - r + 1) = omega arith in q))
    (λ o. ⊎_elim (λ (l : k < r). let q = before_le n k r l in omega arith) (λ (l : r < k). absurd (omega arith)) o) (compared k r)

pub rows_none : (p : Matrix5) (n axis : ℕ) (old : List ℤ) → RowsPut p n axis 0 old old
rows_none p n axis old = record { same = refl; values = λ k j l h. absurd (omega arith); others = λ t h. refl }

-- what a row's polynomial is
pub row_value : (p : Matrix5) (n k j : ℕ) → k + j ≤ n
    → polynomial_at (row_of (polynomial_of p (pos n)) k) j ≡ quartic_sum p (pos (n - k - j)) (pos j) (pos k)
row_value p n k j h =
    subst (λ (x : ℕ). polynomial_at (row_of (polynomial_of p (pos x)) k) j ≡ quartic_sum p (pos (n - k - j)) (pos j) (pos k))
    (let q : n - k - j + j + k ≡ n = omega arith in q) (polynomial_sum p (n - k - j) j k)

module _ (p : Matrix5) (n axis k at : ℕ) (old mid new : List ℤ) (l : k ≤ n) (a : axis < 3) (place : at ≡ 3 * samples_before n k + axis)
    (m : RowsPut p n axis k old mid) (e : Vector5) (is : e ≡ row_of (polynomial_of p (pos n)) k) (r : RowPut e n 0 (n - k + 1) at mid new) where
  value_is : (j : ℕ) → k + j ≤ n → polynomial_at e j ≡ quartic_sum p (pos (n - k - j)) (pos j) (pos k)
  value_is j h = ap (λ (f : Vector5). polynomial_at f j) is ∙ row_value p n k j h

  earlier : (k' j : ℕ) → k' < k → k' + j ≤ n
      → get_or new (3 * (samples_before n k' + j) + axis) (pos 0) ≡ round (quartic_sum p (pos (n - k' - j)) (pos j) (pos k')) (pos (n ^ 4))
  earlier k' j h g =
      let b = before_le n k' k h in
      r.others (3 * (samples_before n k' + j) + axis) (λ i o q. omega arith) ∙ m.values k' j h g

  here : (j : ℕ) → k + j ≤ n → get_or new (3 * (samples_before n k + j) + axis) (pos 0) ≡ round (quartic_sum p (pos (n - k - j)) (pos j) (pos k)) (pos (n ^ 4))
  here j g =
      ap (λ (t : ℕ). get_or new t (pos 0)) (let q : 3 * (samples_before n k + j) + axis ≡ at + 3 * j = omega arith in q)
      ∙ r.values j (omega arith) ∙ ap (λ (z : ℤ). round z (pos (n ^ 4))) (ap (polynomial_at e) (from_none j) ∙ value_is j g)

  pub rows_step : RowsPut p n axis (k + 1) old new
  rows_step = record {
    same = r.same ∙ m.same;
    values = λ k' j h g. below_or_last k' k h (λ o. earlier k' j o g)
        (λ q. subst
        (λ (x : ℕ). get_or new (3 * (samples_before n x + j) + axis) (pos 0) ≡ round (quartic_sum p (pos (n - x - j)) (pos j) (pos x)) (pos (n ^ 4))) (sym q)
        (here j (omega arith)));
    others = λ t h.
        let b = before_next n k in
        r.others t (λ i o q. h (samples_before n k + i) (omega arith) (omega arith)) ∙ m.others t (λ u o q. h u (omega arith) q);
  }

  pub place_next : at + 3 * (n - k + 1) ≡ 3 * samples_before n (k + 1) + axis
  place_next = let b = before_next n k in omega arith

-- ---- what a row asks
module _ (p : Matrix5) (n k : ℕ) (l : k ≤ n) (s : Sampleable p n) (t : AllTapered (polynomial_of p (pos n))) (e : Vector5)
    (is : e ≡ row_of (polynomial_of p (pos n)) k) where
  pub row_sampleable : RowSampleable e n 0 (n - k + 1)
  row_sampleable = record {
    tapers = subst (λ (f : Vector5). Tapered (5 * 2 ^ 34) f) (sym is) (row_tapers (polynomial_of p (pos n)) k (omega (arith, s.few)) t);
    some = s.some;
    few = s.few;
    short = omega (arith, s.few);
    early = omega arith;
    small = λ j h.
        subst (λ (z : ℤ). nat_abs z ≤ 2 ^ 27 * n ^ 4)
        (sym (ap (polynomial_at e) (from_none j) ∙ ap (λ (f : Vector5). polynomial_at f j) is ∙ row_value p n k j (omega arith)))
        (s.small (n - k - j) j k (omega arith));
  }

-- a part of a row
pub row_part : {e : Vector5} {n all : ℕ} → RowSampleable e n 0 all → (first count : ℕ) → first ≤ 16 → first + count ≤ all → RowSampleable e n first count
row_part {e} {n} {all} r first count h l = record {
  tapers = r.tapers;
  some = r.some;
  few = r.few;
  short = omega (arith, r.short);
  early = h;
  small = λ j o.
      subst (λ (x : ℕ). nat_abs (polynomial_at e x) ≤ 2 ^ 27 * n ^ 4) (from_none (first + j)) (r.small (first + j) (omega arith));
}

pub row_room : (n k axis at size : ℕ) → k ≤ n → axis < 3 → at ≡ 3 * samples_before n k + axis → 3 * samples_before n (n + 1) ≤ size → at + 3 * (n - k + 1) ≤ size + 2
row_room n k axis at size l a e h = let b = before_le n k (n + 1) (omega arith) in omega arith

-- ---- how many samples there are
half : (n k b q : ℕ) → k ≤ n → q + k ≡ 2 * n + 2 → 2 * b ≡ k * (q + 1) → 2 * (b + (n - k + 1)) ≡ (k + 1) * q
half n k b q l e h = omega arith

twice : (n k : ℕ) → k ≤ n + 1 → 2 * samples_before n k ≡ k * (2 * n + 3 - k)
unfolding samples_before
twice n zero h = omega arith
twice n (suc k) h =
    let i = twice n k (omega arith) in
    let q = 2 * n + 2 - k in
    let e : 2 * samples_before n k ≡ k * (q + 1) = i ∙ ap (λ (m : ℕ). k * m) (let f : 2 * n + 3 - k ≡ q + 1 = omega arith in f) in
    half n k (samples_before n k) q (omega arith) (omega arith) e
    ∙ ap (λ (m : ℕ). (k + 1) * m) (let f : q ≡ 2 * n + 3 - suc k = omega arith in f)
    ∙ ap (λ (m : ℕ). m * (2 * n + 3 - suc k)) (let f : k + 1 ≡ suc k = omega arith in f)

pub row_start_lem : (n k : ℕ) → k ≤ n + 1 → row_start n k ≡ samples_before n k
unfolding row_start
row_start_lem n k h = let e = twice n k h in omega arith

pub count_is : (n : ℕ) → sample_count n ≡ samples_before n (n + 1)
unfolding sample_count
count_is n =
    let e = twice n (n + 1) (omega arith) in
    let f : (n + 1) * (2 * n + 3 - (n + 1)) ≡ (n + 1) * (n + 2) = ap (λ (m : ℕ). (n + 1) * m) (let g : 2 * n + 3 - (n + 1) ≡ n + 2 = omega arith in g) in
    omega arith

-- ---- three numbers of a list
take_three : (l : List ℤ) (m : ℕ) → m + 3 ≤ length l
    → take (m + 3) l ≡ take m l ++ axes (get_or l m (pos 0)) (get_or l (m + 1) (pos 0)) (get_or l (m + 2) (pos 0))
take_three l m h =
    ap (λ (k : ℕ). take k l) (let e : m + 3 ≡ suc (suc (suc m)) = omega arith in e)
    ∙ take-suc l (suc (suc m)) (pos 0) (omega arith)
    ∙ ap (λ (r : List ℤ). r ++ (get_or l (suc (suc m)) (pos 0) ∷ [])) (take-suc l (suc m) (pos 0) (omega arith)
    ∙ ap (λ (r : List ℤ). r ++ (get_or l (suc m) (pos 0) ∷ [])) (take-suc l m (pos 0) (omega arith)))
    ∙ append_assoc (take m l ++ (get_or l m (pos 0) ∷ [])) (get_or l (suc m) (pos 0) ∷ []) (get_or l (suc (suc m)) (pos 0) ∷ [])
    ∙ append_assoc (take m l) (get_or l m (pos 0) ∷ []) (get_or l (suc m) (pos 0) ∷ get_or l (suc (suc m)) (pos 0) ∷ [])
    ∙ ap (λ (r : List ℤ). take m l ++ (get_or l m (pos 0) ∷ r))
    (λ i. get_or l (one i) (pos 0) ∷ get_or l (two i) (pos 0) ∷ [])
  where
    one : suc m ≡ m + 1
    one = omega arith

    two : suc (suc m) ≡ m + 2
    two = omega arith

-- ---- a list that has every sample at its place is the list of samples
module _ (numbers : List ℤ) (s : Side) (n : ℕ) (new : List ℤ) (long : 3 * samples_before n (n + 1) ≤ length new)
    (at : (k j axis : ℕ) → k + j ≤ n → axis < 3
    → get_or new (3 * (samples_before n k + j) + axis) (pos 0) ≡ sample_at numbers s (weights (n - k - j) j k n) axis) where
  point_at_lem : (k j : ℕ) → k + j ≤ n
      → axes (get_or new (3 * (samples_before n k + j)) (pos 0)) (get_or new (3 * (samples_before n k + j) + 1) (pos 0)) (get_or new (3 * (samples_before n k + j) + 2) (pos 0))
      ≡ sample_point numbers s (weights (n - k - j) j k n)
  unfolding sample_point
  point_at_lem k j h =
      let m = 3 * (samples_before n k + j) in
      let x : get_or new m (pos 0) ≡ sample_at numbers s (weights (n - k - j) j k n) 0 =
      ap (λ (t : ℕ). get_or new t (pos 0)) (let e : m ≡ m + 0 = omega arith in e) ∙ at k j 0 h (omega arith) in
      rw (x, at k j 1 h (omega arith), at k j 2 h (omega arith))

  row_taken : (k j : ℕ) → k ≤ n → j ≤ n - k + 1 → take (3 * (samples_before n k + j)) new ≡ take (3 * samples_before n k) new ++ row_samples numbers s n k j
  unfolding row_samples
  row_taken k zero l h =
      ap (λ (t : ℕ). take t new) (let e : 3 * (samples_before n k + 0) ≡ 3 * samples_before n k = omega arith in e) ∙ sym (append-nil (take (3 * samples_before n k) new))
  row_taken k (suc j) l h =
      let m = 3 * (samples_before n k + j) in
      let b = before_le n k (n + 1) (omega arith) in
      ap (λ (t : ℕ). take t new) (let e : 3 * (samples_before n k + suc j) ≡ m + 3 = omega arith in e)
      ∙ take_three new m (omega arith)
      ∙ ap (λ (r : List ℤ). r ++ axes (get_or new m (pos 0)) (get_or new (m + 1) (pos 0)) (get_or new (m + 2) (pos 0))) (row_taken k j l (omega arith))
      ∙ append_assoc (take (3 * samples_before n k) new) (row_samples numbers s n k j) (axes (get_or new m (pos 0)) (get_or new (m + 1) (pos 0)) (get_or new (m + 2) (pos 0)))
      ∙ ap (λ (r : List ℤ). take (3 * samples_before n k) new ++ (row_samples numbers s n k j ++ r)) (point_at_lem k j (omega arith))

  rows_taken : (k : ℕ) → k ≤ n + 1 → take (3 * samples_before n k) new ≡ first_rows numbers s n k
  unfolding first_rows samples_before
  rows_taken zero h = refl
  rows_taken (suc k) h =
      row_taken k (n - k + 1) (omega arith) (omega arith)
      ∙ ap (λ (r : List ℤ). r ++ row_samples numbers s n k (n - k + 1)) (rows_taken k (omega arith))

  pub all_taken : take (3 * samples_before n (n + 1)) new ≡ triangle_samples numbers s n
  unfolding triangle_samples
  all_taken = rows_taken (n + 1) (omega arith)

  samples_long : length (triangle_samples numbers s n) ≡ 3 * samples_before n (n + 1)
  samples_long = ap length (sym all_taken) ∙ length-take-le (3 * samples_before n (n + 1)) new long

  pub samples_begin : (old : List ℤ) → length new ≡ length old
      → ((t : ℕ) → 3 * samples_before n (n + 1) ≤ t → get_or new t (pos 0) ≡ get_or old t (pos 0)) → new ≡ begins (triangle_samples numbers s n) old
  samples_begin old e rest =
      let m = 3 * samples_before n (n + 1) in
      sym (take-append-drop m new)
      ∙ ap (λ (r : List ℤ). r ++ drop m new) all_taken
      ∙ ap (λ (r : List ℤ). triangle_samples numbers s n ++ r)
      (ext_get_or (pos 0) (drop m new) (drop m old) (length-drop m new ∙ ap (λ (x : ℕ). x - m) e ∙ sym (length-drop m old))
      (λ t h. get_or-drop m new t (pos 0) ∙ rest (m + t) (omega arith) ∙ sym (get_or-drop m old t (pos 0)))
      ∙ ap (λ (x : ℕ). drop x old) (sym samples_long))

-- ---- from three axes
module _ (numbers : List ℤ) (e : net_verdict numbers ≡ sound) (side n : ℕ) (l : 1 ≤ n) (f : n ≤ 16) (old xs ys zs : List ℤ) where
  abbrev controls : ℕ → Matrix5
  controls axis = rows_of (control (on_axis numbers axis) (side_at side))

  -- a sample is the rounded sum
  sum_sample : (axis k j : ℕ) → k + j ≤ n
      → round (quartic_sum (controls axis) (pos (n - k - j)) (pos j) (pos k)) (pos (n ^ 4)) ≡ sample_at numbers (side_at side) (weights (n - k - j) j k n) axis
  unfolding sample_at
  sum_sample axis k j h = ap (λ (z : ℤ). round z (pos (n ^ 4))) (sym (bernstein_is (on_axis numbers axis) (side_at side) (n - k - j) j k))

  module _ (x : RowsPut (controls 0) n 0 (n + 1) old xs) (y : RowsPut (controls 1) n 1 (n + 1) xs ys) (z : RowsPut (controls 2) n 2 (n + 1) ys zs)
      (room : 3 * sample_count n ≤ length old) where
    same : length zs ≡ length old
    same = z.same ∙ y.same ∙ x.same

    found : (k j axis : ℕ) → k + j ≤ n → axis < 3
        → get_or zs (3 * (samples_before n k + j) + axis) (pos 0) ≡ sample_at numbers (side_at side) (weights (n - k - j) j k n) axis
    found k j zero h a =
        let t = 3 * (samples_before n k + j) + 0 in
        z.others t (λ u o q. omega arith) ∙ y.others t (λ u o q. omega arith) ∙ x.values k j (omega arith) h ∙ sum_sample 0 k j h
    found k j (suc zero) h a =
        z.others (3 * (samples_before n k + j) + 1) (λ u o q. omega arith) ∙ y.values k j (omega arith) h ∙ sum_sample 1 k j h
    found k j (suc (suc zero)) h a = z.values k j (omega arith) h ∙ sum_sample 2 k j h
    found k j (suc (suc (suc axis))) h a = absurd (omega arith)

    beyond : (t : ℕ) → 3 * samples_before n (n + 1) ≤ t → get_or zs t (pos 0) ≡ get_or old t (pos 0)
    beyond t h = z.others t (λ u o q. omega arith) ∙ y.others t (λ u o q. omega arith) ∙ x.others t (λ u o q. omega arith)

    pub triangle_put : zs ≡ begins (triangle_samples numbers (side_at side) n) old
    triangle_put =
        let c = count_is n in
        samples_begin numbers (side_at side) n zs (omega (arith, same)) found old same beyond
