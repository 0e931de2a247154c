-- The tangents that a call for a range of corners leaves lie within -2^42 to 2^42: each is one of a net that building writes, at weights that sum to a level.
use mathlib.Core.Path.{◌≡◌, refl, sym, ap, ◌∙◌, subst}
use mathlib.Core.Logic.{⊎_elim}
use mathlib.Core.List.{List}
use Rattle.std.specs.Prelude.{Ok}
use Prim.Native.Nat.{ℕ, zero, suc, ◌+◌, ◌-◌, ◌*◌, ◌/◌, ◌%◌, ◌^◌, ◌≤◌, ◌<◌}
use native.Mathlib.Nat.{zero-mod, mod-lt}
use native.Mathlib.Omega.{arith}
use lib.Dec.{ltb, eqb}
use borrow.Author.Tests.{ne_eqb}
use lib.ListN.{length, get_or, take}
use lib.Seq.{take_all, get_or-take}
use lib.IntN.{ℤ, pos, nat_abs}
use Rattle.paper.specs.Scan.{pick_n}
use Rattle.paper.specs.Mesh.{Mesh, corner_count}
use Rattle.paper.specs.Corners.{sum_of, start_of, face_of, first_of}
use Rattle.paper.specs.Faults.{Accepted, sound}
use Rattle.paper.specs.Links.{link_table}
use Rattle.paper.specs.Net.{Side, side0, side1, side2, side3}
use Rattle.paper.specs.Calls.{nets, per_corner}
use Rattle.paper.specs.Floats.{net_verdict}
use Rattle.paper.specs.Borders.{beside}
use Rattle.paper.specs.Sampling.{most_parts, side_at}
use Rattle.paper.specs.Triangles.{turn_weights, groups, level, segments, group_size, point_groups, owned, points_before, level_verdict}
use Rattle.paper.specs.Tangents.{tangent_pair, tangent_number, own_tangent, tangent_at, tangent_list, tangent_verdict, TangentsFilled}
use Rattle.paper.specs.Claims.{TangentsWithin}
use Rattle.mesh.proofs.Scans.{ways}
use Rattle.mesh.proofs.Verdicts.{sound_left}
use Rattle.mesh.proofs.Faces.{start_all}
use Rattle.mesh.proofs.Links.{values_length, values_at}
use Rattle.borders.proofs.Nets.{nets_pass}
use Rattle.borders.proofs.Ranges.{ranges}
use Rattle.sampling.proofs.TangentSizes.{pair_within, sampled_within}
use Rattle.strips.proofs.Cases.{pick_less, pick_equal}
use Rattle.owners.proofs.Neighbours.{beside_below}
use Rattle.closing.proofs.Partners.{Leveled}
use Rattle.closing.proofs.Used.{exists, within}
use Rattle.closing.proofs.Calls.{begun, accepted_by, leveled_by, start_rises}

-- ---- the weights at a place of a row sum to the level
turn_parts : (s : Side) (N k j : ℕ) → (turn_weights s N k j).parts ≡ N
turn_parts side0 N k j = refl
turn_parts side1 N k j = refl
turn_parts side2 N k j = refl
turn_parts side3 N k j = refl

turn_sum : (s : Side) (N k j : ℕ) → k + j ≤ N
    → (turn_weights s N k j).head + (turn_weights s N k j).tail + (turn_weights s N k j).centre ≡ (turn_weights s N k j).parts
turn_sum side0 N k j h = omega arith
turn_sum side1 N k j h = omega arith
turn_sum side2 N k j h = omega arith
turn_sum side3 N k j h = omega arith

module _ (M : Mesh) (levels : List ℕ) (ok : Accepted M) (leveled : Leveled M levels) where
  module _ (c : ℕ) (h : c < corner_count M) where
    net_length : length (nets M c 1) ≡ per_corner * 1
    unfolding nets
    net_length = values_length _ 0 (per_corner * 1)

    net_sound : net_verdict (nets M c 1) ≡ sound
    net_sound =
        subst (λ (l : List ℤ). net_verdict l ≡ sound) (take_all per_corner (nets M c 1) (omega (arith, net_length)))
        (nets_pass M (link_table M) c 1 (nets M c 1) (nets M c 1) (ranges M ok c 1 (omega arith) (omega arith) (nets M c 1) net_length) 0 (omega arith))

    segments_few : (s : Side) → segments M levels c s ≤ most_parts
    unfolding segments
    segments_few s =
        ⊎_elim (λ e. rw e (leveled (beside M c s) (beside_below M ok c h s)).1) (λ e. rw e (leveled c h).1)
        (ways (ltb (level levels c) (level levels (beside M c s))))

    module _ (e : ℕ) (six : e < 6) where
      at_weights : (s : Side) (N k j : ℕ) → k + j ≤ N → N ≤ most_parts → nat_abs (get_or (tangent_pair (nets M c 1) s (turn_weights s N k j)) e (pos 0)) ≤ 2 ^ 42
      at_weights s N k j l few =
          pair_within (nets M c 1) net_sound s (turn_weights s N k j) (turn_sum s N k j l) (omega (arith, few, turn_parts s N k j)) e six

      outer : (s : Side) (j : ℕ) → j ≤ segments M levels c s → nat_abs (tangent_number M levels c s 0 j e) ≤ 2 ^ 42
      unfolding tangent_number
      outer s j l = at_weights s (segments M levels c s) 0 j (omega arith) (segments_few s)

      inner : (s : Side) (k j : ℕ) → suc k + j ≤ level levels c → nat_abs (tangent_number M levels c s (suc k) j e) ≤ 2 ^ 42
      unfolding tangent_number
      inner s k j l = rw (ne_eqb (suc k) 0 (λ z. omega arith)) (at_weights s (level levels c) (suc k) j l (leveled c h).1)

      ring : (k p : ℕ) → p < pick_n (ltb (k + 1) (level levels c)) (4 * (level levels c - (k + 1))) (pick_n (eqb (k + 1) (level levels c)) 1 0)
          → nat_abs (tangent_number M levels c (side_at (p / (level levels c - suc k))) (suc k) (p % (level levels c - suc k)) e) ≤ 2 ^ 42
      ring k p b =
          let w = level levels c - suc k in
          pick_less (k + 1) (level levels c) (4 * (level levels c - (k + 1))) (pick_n (eqb (k + 1) (level levels c)) 1 0)
          (λ g q. inner _ k (p % w) (omega (arith, mod-lt p {m = level levels c - suc k} (omega arith))))
          (λ g q. pick_equal (k + 1) (level levels c) 1 0
          (λ f r. let none : p ≡ 0 = omega arith in
          let first : p % (level levels c - suc k) ≡ 0 = ap (λ (x : ℕ). x % w) none ∙ zero-mod w in inner _ k (p % w) (omega arith))
          (λ f r. absurd (omega arith)))

      own_within : (g p : ℕ) → p < group_size M levels c g → nat_abs (own_tangent M levels c g p e) ≤ 2 ^ 42
      unfolding own_tangent owned group_size
      own_within zero p b = outer side0 0 (omega arith)
      own_within (suc zero) p b = outer side1 0 (omega arith)
      own_within (suc (suc zero)) p b = outer side2 0 (omega arith)
      own_within (suc (suc (suc zero))) p b = outer side0 (p + 1) (omega arith)
      own_within (suc (suc (suc (suc zero)))) p b = outer side1 (p + 1) (omega arith)
      own_within (suc (suc (suc (suc (suc k))))) p b = ring k p b

  -- ---- number by number
  number_within : (x : ℕ) → x < 6 * sum_of (point_groups M levels) → nat_abs (tangent_at M levels x) ≤ 2 ^ 42
  unfolding tangent_at first_of
  number_within x h =
      let g = face_of (point_groups M levels) (x / 6) in
      own_within (g / groups) (omega (arith, exists M levels ok leveled (x / 6) (omega arith))) (x % 6) (omega arith) (g % groups) _
      (within M levels ok leveled (x / 6) (omega arith))

  list_within : (first count x : ℕ) → x < length (tangent_list M levels first count) → nat_abs (get_or (tangent_list M levels first count) x (pos 0)) ≤ 2 ^ 42
  unfolding tangent_list points_before
  list_within first count x h =
      let f = groups * (first + count) in
      let n : x < 6 * (start_of (point_groups M levels) f - start_of (point_groups M levels) (groups * first)) =
      subst (λ (m : ℕ). x < m) (values_length (tangent_at M levels) _ _) h in
      let most : start_of (point_groups M levels) (f + length (point_groups M levels)) ≡ sum_of (point_groups M levels) = start_all (point_groups M levels) _ (omega arith) in
      rw (values_at (tangent_at M levels) (pos 0) (6 * start_of (point_groups M levels) (groups * first)) _ x n)
      (number_within _ (omega (arith, most, start_rises (point_groups M levels) f (length (point_groups M levels)))))

-- ---- what a call leaves
module _ (M : Mesh) (links levels : List ℕ) (first count : ℕ) (old : List ℤ) (n : ℕ) (out : List ℤ)
    (t : TangentsFilled M links levels first count old (Ok n) out) where
  passed : level_verdict M links first count levels ≡ sound
  unfolding tangent_verdict
  passed = sound_left _ _ (sym t.answers)

  tangents_left : take n out ≡ tangent_list M levels first count
  tangents_left = begun _ old out _ t.numbers_are t.holds

  filled_within : (x : ℕ) → x < n → nat_abs (get_or out x (pos 0)) ≤ 2 ^ 42
  filled_within x h =
      let e : n ≡ length (tangent_list M levels first count) = t.numbers_are in
      subst (λ (z : ℤ). nat_abs z ≤ 2 ^ 42) (ap (λ (l : List ℤ). get_or l x (pos 0)) (sym tangents_left) ∙ get_or-take n out x (pos 0) h)
      (list_within M levels (accepted_by M links levels first count passed) (leveled_by M links levels first count passed) first count x (omega (arith, e)))

pub tangents_within : TangentsWithin
tangents_within = (sampled_within, filled_within)
