-- Each border counts once: of its two sides one is a side 0 or 1, and both give the same misses. No miss is larger than 13 ticks.
use mathlib.Core.Path.{◌≡◌, refl, sym, ap, ◌∙◌}
use mathlib.Core.Bool.{not}
use Prim.Native.Nat.{ℕ, zero, suc, ◌*◌, ◌<◌, ◌≤◌, max}
use native.Mathlib.Omega.{arith}
use lib.IntN.{ℤ, nat_abs}
use Rattle.numbers.proofs.Laws.{add_comm}
use Rattle.paper.specs.Mesh.{Mesh, corner_count}
use Rattle.paper.specs.Faults.{Accepted}
use Rattle.paper.specs.Numbers.{rounded}
use Rattle.paper.specs.Cosines.{unit}
use Rattle.paper.specs.Refined.{RefinedMesh, corners_of, refined_of}
use Rattle.paper.specs.Net.{Side, side0, side1, side2, side3, across, H, T, X, Y, C, a_row}
use Rattle.paper.specs.Borders.{Output, output_of, written, beside, most_miss}
use Rattle.surface.proofs.Rings.{neighbour_in}
use Rattle.surface.proofs.Border.{Border, border}
use Rattle.surface.proofs.Hull.{corners_sound, points_small}
use Rattle.borders.proofs.Ranges.{every_border}
use Rattle.paper.specs.Report.{conditions, condition, miss_on, miss_at, is_counted, largest_miss}
use Rattle.paper.specs.Claims.{BordersOnce}
use Rattle.border_report.proofs.page_laws.Largest.{largest_same, largest_within}

twice_across : (s : Side) → across (across s) ≡ s
twice_across side0 = refl
twice_across side1 = refl
twice_across side2 = refl
twice_across side3 = refl

one_counts : (s : Side) → is_counted (across s) ≡ not (is_counted s)
one_counts side0 = refl
one_counts side1 = refl
one_counts side2 = refl
one_counts side3 = refl

-- the two a points stand in a condition as their sum
turned : (j : ℕ) (H T X Y C b a â : ℤ) → condition j H T X Y C b a â ≡ condition j H T X Y C b â a
turned zero H T X Y C b a â = rw (add_comm a â)
turned (suc zero) H T X Y C b a â = rw (add_comm a â)
turned (suc (suc zero)) H T X Y C b a â = rw (add_comm a â)
turned (suc (suc (suc j))) H T X Y C b a â = rw (add_comm a â)

exchanged : (j : ℕ) (H T X Y C H' T' X' Y' C' b b' a â â' : ℤ) → H' ≡ H → T' ≡ T → X' ≡ X → Y' ≡ Y → C' ≡ C → b' ≡ b → â' ≡ â
    → nat_abs (condition j H' T' X' Y' C' b' a â') ≡ nat_abs (condition j H T X Y C b â a)
exchanged j H T X Y C H' T' X' Y' C' b b' a â â' eH eT eX eY eC eb ea = rw (eH, eT, eX, eY, eC, eb, ea) (ap nat_abs (turned j H T X Y C b a â))

module _ (M : Mesh) (ok : Accepted M) (c : ℕ) (here : c < corner_count M) (s : Side) where
  abbrev d : ℕ
  d = beside M c s

  -- the same miss from the other side, on an axis
  same_on : (j : ℕ) → j < conditions → (axis : ℕ) → axis < 3 → miss_on M j d (across s) axis ≡ miss_on M j c s axis
  same_on j few axis small =
      let K : RefinedMesh rounded = refined_of rounded M axis in
      let O : Output = output_of M 0 (corner_count M) in
      let e : Border K c s d (across s) = border K (corners_sound M ok) (points_small M ok axis) c here s in
      let curve = (every_border M ok c here s axis small).curve j (omega arith) in
      let row : a_row (written O axis (beside M d (across s))) (across (across s)) j ≡ a_row (written O axis c) s j =
      ap (λ (e : ℕ). a_row (written O axis e) (across (across s)) j) e.back ∙ ap (λ (t : Side). a_row (written O axis c) t j) (twice_across s) in
      exchanged j (H K c s) (T K c s) (X K c s) (Y K c s) (C K c s) _ _ _ _ _ _ _ _ _ _ e.same_h e.same_t e.same_x e.same_y e.same_c
      (sym curve) row

  same_miss : (j : ℕ) → j < conditions → miss_at M j d (across s) ≡ miss_at M j c s
  unfolding miss_at
  same_miss j few = largest_same 3 (miss_on M j d (across s)) (miss_on M j c s) (λ axis small. same_on j few axis small)

  -- demand 3, of a border's misses
  miss_on_lem : (j axis : ℕ) → j < conditions → axis < 3 → miss_on M j c s axis ≤ most_miss * unit
  miss_on_lem zero axis few small = (every_border M ok c here s axis small).first_bounded
  miss_on_lem (suc zero) axis few small = (every_border M ok c here s axis small).second_bounded
  miss_on_lem (suc (suc zero)) axis few small = (every_border M ok c here s axis small).third_bounded
  miss_on_lem (suc (suc (suc zero))) axis few small = (every_border M ok c here s axis small).fourth_bounded
  miss_on_lem (suc (suc (suc (suc j)))) axis few small = absurd (omega arith)

  miss_within : (j : ℕ) → j < conditions → miss_at M j c s ≤ most_miss * unit
  unfolding miss_at
  miss_within j few = largest_within 3 (most_miss * unit) (miss_on M j c s) (λ axis small. miss_on_lem j axis few small)

pub borders_once : BordersOnce
borders_once M ok c here s = record {
  below = neighbour_in (corners_of M) (corners_sound M ok) c here s;
  back = (border (refined_of rounded M 0) (corners_sound M ok) (points_small M ok 0) c here s).back;
  back_side = twice_across s;
  one_counts = one_counts s;
  same = same_miss M ok c here s;
}

pub largest_miss_within : (M : Mesh) → Accepted M → (j : ℕ) → j < conditions → largest_miss M j ≤ most_miss * unit
unfolding largest_miss
largest_miss_within M ok j few =
    largest_within (corner_count M) (most_miss * unit) (λ c. max (miss_at M j c side0) (miss_at M j c side1))
    (λ c here. omega (arith, miss_within M ok c here side0 j few, miss_within M ok c here side1 j few))
