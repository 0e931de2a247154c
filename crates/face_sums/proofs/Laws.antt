-- The sizes of vertices and of the sums of faces, three numbers put into a list, and the table of sums.
use mathlib.Core.Path.{◌≡◌, ap, ◌∙◌, sym}
use mathlib.Core.Logic.{⊎_elim}
use mathlib.Core.List.{List}
use Prim.Native.Nat.{ℕ, zero, suc, ◌+◌, ◌*◌, ◌^◌, ◌<◌, ◌≤◌}
use native.Mathlib.Omega.{arith}
use lib.Dec.{eqb, lit<}
use lib.ListN.{length, get_or, set, length-set}
use lib.Seq.{get_or-set_same, get_or-set_other}
use borrow.Author.Count.{below_more}
use borrow.Author.Tests.{eqb-true, eqb-false}
use lib.IntN.{ℤ, pos, nat_abs, ◌+ℤ◌, ◌*ℤ◌}
use mir.Syntax.{w32}
use mir.Val.{SFits, to_z, of_z}
use mir.Facts.{to_z-of_z}
use Rattle.paper.specs.Mesh.{most_sides, most_coordinate, Mesh}
use Rattle.paper.specs.Corners.{sum_of, start_of}
use Rattle.paper.specs.Links.{vertex_of}
use Rattle.paper.specs.Refined.{ticks_per_step, ticks, face_sum}
use Rattle.numbers.proofs.Machine.{abs_fits}
use Rattle.numbers.proofs.Poly.{over, poly}
use Rattle.numbers.proofs.Sum.{sum_more, sum_times, sum_abs}
use Rattle.mesh.proofs.Scans.{ways}
use Rattle.mesh.proofs.Faces.{start_next, start_all}
use Rattle.face_sums.specs.Marks.{Tells, Needed}
use Rattle.face_sums.specs.Sums.{FacesWithin, Placed, vertex_steps, step_sum, face_steps, sum_row, face_sum_at, SumsAre}

-- ---- the vertices of corners and their sums, in grid steps
-- one more vertex r to the sum t of j of them, as the machine adds it
pub record SumMore (coordinates : List ℤ) (corners : List ℕ) (start j axis t : ℕ) (r : ℤ) : Type 0 where
  pub fits : SFits w32 (to_z w32 t +ℤ to_z w32 (of_z w32 r))
  pub is : to_z w32 (of_z w32 (to_z w32 t +ℤ to_z w32 (of_z w32 r))) ≡ step_sum coordinates corners start (j + 1) axis

module _ (coordinates : List ℤ) (corners : List ℕ) (p : Placed coordinates corners) where
  pub place_in : (axis c : ℕ) → axis < 3 → c < length corners → 3 * vertex_of corners c + axis < length coordinates
  place_in axis c a h = omega (arith, p.named c h)

  pub steps_size : (axis c : ℕ) → axis < 3 → c < length corners → nat_abs (vertex_steps coordinates corners axis c) ≤ most_coordinate
  steps_size axis c a h = p.within (3 * vertex_of corners c + axis) (place_in axis c a h)

  pub sum_size : (start n axis : ℕ) → axis < 3 → start + n ≤ length corners → nat_abs (step_sum coordinates corners start n axis) ≤ n * most_coordinate
  sum_size start n axis a h =
      sum_abs (λ j. vertex_steps coordinates corners axis (start + j)) n most_coordinate (λ j l. steps_size axis (start + j) a (omega arith))

  pub sum_turn : (start j axis : ℕ) → axis < 3 → start + (j + 1) ≤ length corners → j + 1 ≤ most_sides → (t : ℕ) (r : ℤ) → SFits w32 r
      → to_z w32 t ≡ step_sum coordinates corners start j axis → r ≡ vertex_steps coordinates corners axis (start + j)
      → SumMore coordinates corners start j axis t r
  sum_turn start j axis a h l t r f e q =
      let more = sum_more (λ i. vertex_steps coordinates corners axis (start + i)) j in
      let k = abs_fits w32 (step_sum coordinates corners start (j + 1) axis) (2 ^ 20) (omega (arith, sum_size start (j + 1) axis a h)) (lit< tt) in
      record { fits = rw (to_z-of_z f, e, q, ← more) k; is = rw (to_z-of_z f, e, q, ← more) (to_z-of_z k) }

-- Σ of a face, in ticks and in grid steps
pub face_steps_lem : (M : Mesh) (f axis : ℕ) → face_sum M axis f ≡ pos ticks_per_step *ℤ face_steps M f axis
unfolding face_sum ticks
face_steps_lem M f axis =
    sum_times (pos ticks_per_step) (λ j. vertex_steps M.coordinates M.corners axis (start_of M.sides f + j)) (get_or M.sides f 0)

pub in_steps_lem : (M : Mesh) (f axis : ℕ) (total : ℤ) → pos ticks_per_step *ℤ total ≡ face_sum M axis f → total ≡ face_steps M f axis
in_steps_lem M f axis total e = cancel total (face_steps M f axis) (e ∙ face_steps_lem M f axis)
  where
    cancel : (a b : ℤ) → pos ticks_per_step *ℤ a ≡ pos ticks_per_step *ℤ b → a ≡ b
    cancel = over 2 _ λ ρ. simp (poly, ρ) (omega arith)

-- ---- three numbers put into a list from place `at` on
pub by_axis : (P : ℕ → Type 0) → P 0 → P 1 → P 2 → (axis : ℕ) → axis < 3 → P axis
by_axis P x y z zero l = x
by_axis P x y z (suc zero) l = y
by_axis P x y z (suc (suc zero)) l = z
by_axis P x y z (suc (suc (suc axis))) l = absurd (omega arith)

abbrev pub three : List ℤ → ℕ → ℤ → ℤ → ℤ → List ℤ
three old at x y z = set (set (set old at x) (at + 1) y) (at + 2) z

module _ (old : List ℤ) (at : ℕ) (x y z : ℤ) (b : at + 3 ≤ length old) where
  pub three_beside : (i : ℕ) → ((axis : ℕ) → axis < 3 → i ≡ at + axis → ⊥) → get_or (three old at x y z) i (pos 0) ≡ get_or old i (pos 0)
  three_beside i n =
      get_or-set_other (set (set old at x) (at + 1) y) (at + 2) i z (pos 0) (n 2 (omega arith))
      ∙ get_or-set_other (set old at x) (at + 1) i y (pos 0) (n 1 (omega arith))
      ∙ get_or-set_other old at i x (pos 0) (λ e. n 0 (omega arith) (omega arith))

  above : (i : ℕ) → (i ≡ at + 2 → ⊥) → get_or (three old at x y z) i (pos 0) ≡ get_or (set (set old at x) (at + 1) y) i (pos 0)
  above i n = get_or-set_other (set (set old at x) (at + 1) y) (at + 2) i z (pos 0) n

  pub three_at : (value : ℕ → ℤ) → x ≡ value 0 → y ≡ value 1 → z ≡ value 2 → (axis : ℕ) → axis < 3 → get_or (three old at x y z) (at + axis) (pos 0) ≡ value axis
  three_at value ex ey ez =
      by_axis (λ axis. get_or (three old at x y z) (at + axis) (pos 0) ≡ value axis)
      (let q : at + 0 ≡ at = omega arith in
      rw q
      (above at (λ e. omega arith) ∙ get_or-set_other (set old at x) (at + 1) at y (pos 0) (λ e. omega arith)
      ∙ get_or-set_same old at x (pos 0) (omega arith) ∙ ex))
      (above (at + 1) (λ e. omega arith) ∙ get_or-set_same (set old at x) (at + 1) y (pos 0) (simp length-set (omega arith)) ∙ ey)
      (get_or-set_same (set (set old at x) (at + 1) y) (at + 2) z (pos 0) (simp length-set (omega arith)) ∙ ez)

  pub three_small : (bound : ℕ) → nat_abs x ≤ bound → nat_abs y ≤ bound → nat_abs z ≤ bound → ((i : ℕ) → nat_abs (get_or old i (pos 0)) ≤ bound)
      → (i : ℕ) → nat_abs (get_or (three old at x y z) i (pos 0)) ≤ bound
  three_small bound hx hy hz h =
      small_set (set (set old at x) (at + 1) y) (at + 2) z (simp length-set (omega arith)) hz
      (small_set (set old at x) (at + 1) y (simp length-set (omega arith)) hy (small_set old at x (omega arith) hx h))
    where
      small_set : (l : List ℤ) (k : ℕ) (v : ℤ) → k < length l → nat_abs v ≤ bound → ((i : ℕ) → nat_abs (get_or l i (pos 0)) ≤ bound)
          → (i : ℕ) → nat_abs (get_or (set l k v) i (pos 0)) ≤ bound
      small_set l k v b s o i =
          ⊎_elim
          (λ e. let q : i ≡ k = eqb-true i k e in rw (q, get_or-set_same l k v (pos 0) b) s)
          (λ e. rw (get_or-set_other l k i v (pos 0) (eqb-false i k e)) (o i))
          (ways (eqb i k))

-- ---- the table of sums
-- a face has at least three corners, so there are no more sums than corners
sums_before : (sides : List ℕ) → FacesWithin sides → (f : ℕ) → f ≤ length sides → sum_row * f ≤ start_of sides f
sums_before sides h zero l = omega arith
sums_before sides h (suc f) l =
    let k : suc f ≡ f + 1 = omega arith in
    let e : start_of sides (suc f) ≡ start_of sides f + get_or sides f 0 = ap (start_of sides) k ∙ start_next sides f (omega arith) in
    omega (arith, sums_before sides h f (omega arith), e, h.least f (omega arith))

pub sums_fit : (sides : List ℕ) → FacesWithin sides → sum_row * length sides ≤ sum_of sides
sums_fit sides h = omega (arith, sums_before sides h (length sides) (omega arith), start_all sides (length sides) (omega arith))

-- no face yet, and one more, of which r tells whether it is needed; then its row is its Σ
module _ (M : Mesh) (marked : List ℕ) where
  pub sums_none : (wanted : List ℕ) (sums : List ℤ) → SumsAre M marked 0 wanted sums
  sums_none wanted sums = record { told = λ f h. absurd (omega arith); sums_are = λ f axis h. absurd (omega arith) }

  pub sums_more : (f r : ℕ) (wanted : List ℕ) (old new : List ℤ) → f < length wanted → Tells r (Needed M.sides M.corners marked f)
      → ((i : ℕ) → i < sum_row * f → get_or new i (pos 0) ≡ get_or old i (pos 0))
      → (0 < r → (axis : ℕ) → axis < 3 → face_sum_at new f axis ≡ face_steps M f axis)
      → SumsAre M marked f wanted old → SumsAre M marked (f + 1) (set wanted f r) new
  sums_more f r wanted old new b t before row h = record {
    told = below_more (λ g. Tells (get_or (set wanted f r) g 0) (Needed M.sides M.corners marked g)) f
        (λ g k. rw (get_or-set_other wanted f g r 0 (λ q. omega arith)) (h.told g k)) (rw (get_or-set_same wanted f r 0 b) t);
    sums_are = λ g axis l a n.
        below_more (λ k. Needed M.sides M.corners marked k → pos ticks_per_step *ℤ face_sum_at new k axis ≡ face_sum M axis k) f
        (λ k j m. rw (before (sum_row * k + axis) (omega arith)) (h.sums_are k axis j a m))
        (λ m. rw (row (t.yes m) axis a) (sym (face_steps_lem M f axis))) g l n;
  }
