-- Demand 3: across every border of two outputs that calls of building left, the common curve is the same and the four conditions are kept.
-- The points read in an output are those of the net; along a side these are the values that a border relates.
use mathlib.Core.Path.{◌≡◌, refl, sym, ap, ◌∙◌}
use Prim.Native.Nat.{ℕ, zero, suc, ◌+◌, ◌-◌, ◌*◌, ◌<◌}
use native.Mathlib.Omega.{arith}
use lib.ListN.{get_or}
use lib.IntN.{ℤ, pos, ◌+ℤ◌}
use Rattle.numbers.proofs.Laws.{add_comm}
use Rattle.paper.specs.Numbers.{round, rounded}
use Rattle.paper.specs.Refined.{RefinedMesh, refined_of}
use Rattle.paper.specs.Net.{Side, side0, side1, side2, side3, across, H, T, X, Y, C, outer1, outer2, outer3, a0, a1, a2, a3, b_grid, a_grid, net}
use Rattle.paper.specs.Net.{outer_row, a_row}
use Rattle.paper.specs.Borders.{written, first, second, third, fourth, InBounds, beside}
use Rattle.paper.specs.Claims.{Demand3}
use Rattle.surface.proofs.Border.{Border, border}
use Rattle.surface.proofs.Hull.{corners_sound, points_small}
use Rattle.borders.proofs.Conditions.{head_shared, tail_shared, same_outer1, same_outer2, same_outer3, first_within, second_within, third_within}
use Rattle.borders.proofs.Conditions.{fourth_within}
use Rattle.borders.proofs.Written.{accepted, corner_of_lem, written_is}

-- ---- the points of a net along a side
swapped : (x y : ℤ) → round (x +ℤ y) (pos 2) ≡ round (y +ℤ x) (pos 2)
swapped x y = ap (λ (z : ℤ). round z (pos 2)) (add_comm x y)

module _ (K : RefinedMesh rounded) (c : ℕ) where
  abbrev points : ℕ → ℤ
  points k = get_or (net K c) k (pos 0)

  -- the ends and the first and last a points, which two sides share
  outer_0 : (s : Side) → outer_row points s 0 ≡ H K c s
  unfolding net b_grid a_grid
  outer_0 side0 = refl
  outer_0 side1 = head_shared K c side1
  outer_0 side2 = refl
  outer_0 side3 = head_shared K c side3

  outer_4 : (s : Side) → outer_row points s 4 ≡ T K c s
  unfolding net b_grid a_grid
  outer_4 side0 = refl
  outer_4 side1 = tail_shared K c side1
  outer_4 side2 = tail_shared K c side2
  outer_4 side3 = refl

  row_0 : (s : Side) → a_row points s 0 ≡ a0 K c s
  unfolding net b_grid a_grid a0
  row_0 side0 = refl
  row_0 side1 = swapped (outer1 K c side2) (outer1 K c side1)
  row_0 side2 = refl
  row_0 side3 = swapped (outer1 K c side0) (outer1 K c side3)

  row_3 : (s : Side) → a_row points s 3 ≡ a3 K c s
  unfolding net b_grid a_grid a3
  row_3 side0 = refl
  row_3 side1 = swapped (outer3 K c side0) (outer3 K c side1)
  row_3 side2 = swapped (outer3 K c side3) (outer3 K c side2)
  row_3 side3 = refl

  -- the points that belong to one side
  inner : (s : Side) → (outer_row points s 1 ≡ outer1 K c s) × (outer_row points s 2 ≡ outer2 K c s) × (outer_row points s 3 ≡ outer3 K c s)
      × (a_row points s 1 ≡ a1 K c s) × (a_row points s 2 ≡ a2 K c s)
  unfolding net b_grid a_grid
  inner side0 = (refl, refl, refl, refl, refl)
  inner side1 = (refl, refl, refl, refl, refl)
  inner side2 = (refl, refl, refl, refl, refl)
  inner side3 = (refl, refl, refl, refl, refl)

-- ---- rows look at the 41 points only
module _ (p q : ℕ → ℤ) (same : (k : ℕ) → k < 41 → p k ≡ q k) where
  pub same_outer : (s : Side) (j : ℕ) → j < 5 → outer_row p s j ≡ outer_row q s j
  same_outer side0 j l = same (5 * 0 + j) (omega arith)
  same_outer side1 j l = same (5 * (4 - j) + 4) (omega arith)
  same_outer side2 j l = same (5 * 4 + (4 - j)) (omega arith)
  same_outer side3 j l = same (5 * j + 0) (omega arith)

  pub same_a : (s : Side) (j : ℕ) → j < 4 → a_row p s j ≡ a_row q s j
  same_a side0 j l = same (25 + 4 * 0 + j) (omega arith)
  same_a side1 j l = same (25 + 4 * (3 - j) + 3) (omega arith)
  same_a side2 j l = same (25 + 4 * 3 + (3 - j)) (omega arith)
  same_a side3 j l = same (25 + 4 * j + 0) (omega arith)

-- ---- a border whose points p and q are those of the two nets
module _ (K : RefinedMesh rounded) (c : ℕ) (s : Side) (d : ℕ) (t : Side) (e : Border K c s d t) (p q : ℕ → ℤ)
    (hp : (k : ℕ) → k < 41 → p k ≡ points K c k) (hq : (k : ℕ) → k < 41 → q k ≡ points K d k) where
  here_outer : (j : ℕ) → j < 5 → outer_row p s j ≡ outer_row (points K c) s j
  here_outer j l = same_outer p (points K c) hp s j l

  there_outer : (j : ℕ) → j < 5 → outer_row q t j ≡ outer_row (points K d) t j
  there_outer j l = same_outer q (points K d) hq t j l

  here_a : (j : ℕ) → j < 4 → a_row p s j ≡ a_row (points K c) s j
  here_a j l = same_a p (points K c) hp s j l

  there_a : (j : ℕ) → j < 4 → a_row q t j ≡ a_row (points K d) t j
  there_a j l = same_a q (points K d) hq t j l

  curve : (j : ℕ) → j < 5 → outer_row (points K c) s j ≡ outer_row (points K d) t j
  curve zero l = outer_0 K c s ∙ sym (outer_0 K d t ∙ e.same_h)
  curve (suc zero) l = (inner K c s).0 ∙ sym ((inner K d t).0 ∙ same_outer1 K c s d t e)
  curve (suc (suc zero)) l = (inner K c s).1 ∙ sym ((inner K d t).1 ∙ same_outer2 K c s d t e)
  curve (suc (suc (suc zero))) l = (inner K c s).2 ∙ sym ((inner K d t).2 ∙ same_outer3 K c s d t e)
  curve (suc (suc (suc (suc zero)))) l = outer_4 K c s ∙ sym (outer_4 K d t ∙ e.same_t)
  curve (suc (suc (suc (suc (suc j))))) l = absurd (omega arith)

  common : (j : ℕ) → j < 5 → outer_row p s j ≡ outer_row q t j
  common j l = here_outer j l ∙ curve j l ∙ sym (there_outer j l)

  -- a condition at place j of the rows, from the values b, a and â that stand there
  abbrev Condition : Type 0
  Condition = ℤ → ℤ → ℤ → ℤ → ℤ → ℤ → ℤ → ℤ → ℤ

  abbrev at : Condition → ℤ → ℤ → ℤ → ℤ
  at condition b a â = condition (H K c s) (T K c s) (X K c s) (Y K c s) (C K c s) b a â

  bounded : (condition : Condition) (j : ℕ) → j < 4 → (b a â : ℤ)
      → outer_row (points K c) s j ≡ b → a_row (points K c) s j ≡ a → a_row (points K d) t j ≡ â → InBounds (at condition b a â)
      → InBounds (at condition (outer_row p s j) (a_row p s j) (a_row q t j))
  bounded condition j l b a â eb ea eâ h = rw (here_outer j (omega arith) ∙ eb, here_a j l ∙ ea, there_a j l ∙ eâ) h

  first_holds : InBounds (at first (outer_row p s 0) (a_row p s 0) (a_row q t 0))
  first_holds = bounded first 0 (omega arith) _ _ _ (outer_0 K c s) (row_0 K c s) (row_0 K d t) (first_within K c s d t e)

  second_holds : InBounds (at second (outer_row p s 1) (a_row p s 1) (a_row q t 1))
  second_holds = bounded second 1 (omega arith) _ _ _ (inner K c s).0 (inner K c s).3 (inner K d t).3 (second_within K c s d t e)

  third_holds : InBounds (at third (outer_row p s 2) (a_row p s 2) (a_row q t 2))
  third_holds = bounded third 2 (omega arith) _ _ _ (inner K c s).1 (inner K c s).4 (inner K d t).4 (third_within K c s d t e)

  fourth_holds : InBounds (at fourth (outer_row p s 3) (a_row p s 3) (a_row q t 3))
  fourth_holds = bounded fourth 3 (omega arith) _ _ _ (inner K c s).2 (row_3 K c s) (row_3 K d t) (fourth_within K c s d t e)

-- ---- demand 3
pub demand3 : Demand3
demand3 M A B wA wB c s hc hd axis small =
    let K : RefinedMesh rounded = refined_of rounded M axis in
    let d : ℕ = beside M c s in
    let t : Side = across s in
    let ok = accepted M A wA in
    let e : Border K c s d t = border K (corners_sound M ok) (points_small M ok axis) c (corner_of_lem M A wA c hc) s in
    let hp = written_is M A wA c hc axis small in
    let hq = written_is M B wB d hd axis small in
    record {
      curve = common K c s d t e (written A axis c) (written B axis d) hp hq;
      first_bounded = first_holds K c s d t e (written A axis c) (written B axis d) hp hq;
      second_bounded = second_holds K c s d t e (written A axis c) (written B axis d) hp hq;
      third_bounded = third_holds K c s d t e (written A axis c) (written B axis d) hp hq;
      fourth_bounded = fourth_holds K c s d t e (written A axis c) (written B axis d) hp hq;
    }
