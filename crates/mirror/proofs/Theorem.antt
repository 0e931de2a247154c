-- The mirror theorem. Of coordinates the checks read the number and, by 7, the size, which a sign does not alter; the construction turns with the sign.
use mathlib.Core.Path.{◌≡◌, refl, sym, ap, ◌∙◌}
use mathlib.Core.Bool.{Bool, true, false, ◌||◌}
use mathlib.Core.List.{List}
use Prim.Native.Nat.{ℕ, zero, suc, ◌+◌, ◌-◌, ◌*◌, ◌/◌, ◌%◌, ◌<◌}
use native.Mathlib.Nat.{mod-lt}
use native.Mathlib.Omega.{arith}
use lib.Dec.{ltb, eqb, leb-suc-suc}
use lib.ListN.{length, get_or}
use lib.IntN.{ℤ, pos, negsuc, neg_ℤ}
use lib.Signed.{lt_z}
use Rattle.paper.specs.Mesh.{Mesh, most_coordinate}
use Rattle.paper.specs.Corners.{start_of, face_of, sides_of, next, previous}
use Rattle.paper.specs.Links.{vertex_of, link_table}
use Rattle.paper.specs.Faults.{fault7, list_faults, link_faults, verdict, link_verdict}
use Rattle.paper.specs.Numbers.{rounded}
use Rattle.paper.specs.Refined.{corners_of, ticks_per_step, ticks, face_sum, u_of, v_of, refined_point}
use Rattle.paper.specs.Calls.{per_corner, number_at, nets, fault15, fault16, build_verdict}
use Rattle.paper.specs.Mirror.{negated_if, negate_axis, mirrored}
use Rattle.paper.specs.Claims.{Mirrors}
use Rattle.mirror.proofs.Turn.{turn}
use Rattle.mirror.proofs.Nets.{add, mul, by, sum_turn, point_turn}
use Rattle.mirror.proofs.Lists.{turned, negate_length, negate_at, negate_values, values_same}

-- ---- 7 is the same of a number and of its negative
or_none : (b : Bool) → (b || false) ≡ b
or_none true = refl
or_none false = refl

abbrev outside : ℤ → Bool
outside z = lt_z z (negsuc (most_coordinate - 1)) || lt_z (pos most_coordinate) z

beyond : (a : ℕ) → outside (negsuc a) ≡ outside (pos (suc a))
beyond a = or_none (ltb (most_coordinate - 1) a) ∙ sym (leb-suc-suc most_coordinate a)

outside_neg : (z : ℤ) → outside (neg_ℤ z) ≡ outside z
outside_neg (pos zero) = refl
outside_neg (pos (suc a)) = beyond a
outside_neg (negsuc a) = sym (beyond a)

outside_if : (b : Bool) (z : ℤ) → outside (negated_if b z) ≡ outside z
outside_if true z = outside_neg z
outside_if false z = refl

module _ (axis : ℕ) (M : Mesh) where
  abbrev M' : Mesh
  M' = mirrored axis M

  -- ---- verdicts
  coordinates_same : (i : ℕ) → fault7 M'.coordinates i ≡ fault7 M.coordinates i
  unfolding fault7
  coordinates_same i = ap outside (negate_at axis M.coordinates i) ∙ outside_if (eqb (i % 3) axis) (get_or M.coordinates i (pos 0))

  verdicts : verdict M' ≡ verdict M
  unfolding verdict list_faults link_faults
  verdicts =
      let same : fault7 M'.coordinates ≡ fault7 M.coordinates = λ j i. coordinates_same i j in
      rw (negate_length axis M.coordinates, same)

  link_verdicts : (n : ℕ) → link_verdict M' n ≡ link_verdict M n
  unfolding link_verdict
  link_verdicts n = rw verdicts

  build_verdicts : (links : List ℕ) (first count n : ℕ) → build_verdict M' links first count n ≡ build_verdict M links first count n
  unfolding build_verdict fault15 fault16
  build_verdicts links first count n = rw (link_verdicts (length links))

  -- ---- refined points, and the numbers that building writes
  module _ (k : ℕ) (h : k < 3) where
    abbrev b : Bool
    b = eqb k axis

    at_axis : (v : ℕ) → (3 * v + k) % 3 ≡ k
    at_axis v = omega arith

    ticks_turn : (c : ℕ) → ticks M' k c ≡ negated_if b (ticks M k c)
    unfolding ticks
    ticks_turn c =
        let v = vertex_of M.corners c in
        let l = M.coordinates in
        mul (negated_if b) (turn b) (pos ticks_per_step)
        (negate_at axis l (3 * v + k) ∙ ap (λ (j : ℕ). negated_if (eqb j axis) (get_or l (3 * v + k) (pos 0))) (at_axis v))

    face_turn : (f : ℕ) → face_sum M' k f ≡ negated_if b (face_sum M k f)
    unfolding face_sum
    face_turn f = sum_turn (negated_if b) (turn b) _ _ (get_or M.sides f 0) (λ j. ticks_turn (start_of M.sides f + j))

    refined_turn : (c : ℕ) → refined_point rounded M' k c ≡ negated_if b (refined_point rounded M k c)
    unfolding refined_point u_of v_of
    refined_turn c =
        let n = sides_of M.sides c in
        let u = u_of M c in
        let v = v_of M c in
        let σ = negated_if b in
        let t = turn b in
        by σ t (512 * n)
        (add σ t (mul σ t (pos (2 * (16 - u) * (16 - v))) (face_turn (face_of M.sides c)))
        (mul σ t (pos n)
        (add σ t
        (add σ t (mul σ t (pos ((16 - u) * v)) (ticks_turn (previous M.sides c))) (mul σ t (pos (16 * (u + v))) (ticks_turn c)))
        (mul σ t (pos (u * (16 - v))) (ticks_turn (next M.sides c))))))

  number_turn : (first i : ℕ) → number_at rounded M' first i ≡ turned axis i (number_at rounded M first i)
  unfolding number_at
  number_turn first i =
      let k = i % 3 in
      point_turn (negated_if (eqb k axis)) (turn (eqb k axis)) (corners_of M) (refined_point rounded M k) (refined_point rounded M' k)
      (refined_turn k (mod-lt i (omega arith))) (first + i / per_corner) (i % per_corner / 3)

  nets_turn : (first count : ℕ) → nets M' first count ≡ negate_axis axis (nets M first count)
  unfolding nets
  nets_turn first count =
      values_same (number_at rounded M' first) (λ i. turned axis i (number_at rounded M first i)) 0 (per_corner * count) (λ k l m. number_turn first k)
      ∙ sym (negate_values axis (number_at rounded M first) (per_corner * count))

pub mirrors : Mirrors
unfolding link_table
mirrors axis M = record {
  verdicts = verdicts axis M;
  accepted = (λ a. verdicts axis M ∙ a, λ a. sym (verdicts axis M) ∙ a);
  link_verdicts = link_verdicts axis M;
  build_verdicts = build_verdicts axis M;
  tables = refl;
  points = λ first count links links' old old' out out' made made'.
      made'.holds ∙ nets_turn axis M first count ∙ ap (negate_axis axis) (sym made.holds);
}
