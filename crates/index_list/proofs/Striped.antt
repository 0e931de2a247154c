-- Laws of the fills of strips, sides and corners: the numbers between two rows are those of the list of triangles.
use mathlib.Core.Path.{◌≡◌, sym, ap, ◌∙◌, subst}
use mathlib.Core.List.{List}
use Prim.Native.Nat.{ℕ, zero, suc, ◌+◌, ◌-◌, ◌*◌, ◌/◌, ◌%◌, ◌≤◌, ◌<◌}
use native.Mathlib.Omega.{arith}
use Rattle.paper.specs.Mesh.{Mesh, corner_count}
use Rattle.paper.specs.Corners.{start_of}
use Rattle.paper.specs.Net.{Side}
use Rattle.paper.specs.Sampling.{most_parts, side_at}
use Rattle.paper.specs.Triangles.{apex, foot, strips, level, row_segments, point_number, lower_corner, upper_corner, triangle_corner, strip_sizes, index_at}
use Rattle.paper.specs.Triangles.{triangles_before}
use Rattle.strips.specs.declared.NumberedRow.{NumberedRow}
use Rattle.strips.specs.PointRows.{over_number, under_number, strip_number}
use Rattle.index_list.specs.Rows.{RowOf, side_start}
use Rattle.strips.proofs.Cases.{test_less, number_back}
use Rattle.closing.proofs.Calls.{start_rises}
use Rattle.strips.proofs.Strips.{apex_rises, foot_at}
use Rattle.closing.proofs.Partners.{Leveled, Triangle, row_wide, row_later, lower_is, upper_is}
use Rattle.closing.proofs.Places.{strip_at, size_some, index_is}
use Rattle.closing.proofs.Counts.{strip_step}

-- ---- the numbers between two rows
module _ (M : Mesh) (levels : List ℕ) (leveled : Leveled M levels) (c : ℕ) (h : c < corner_count M) (s : Side) (k : ℕ) (l : k < level levels c) (L U : NumberedRow)
    (lower : RowOf M levels c s k L) (upper : RowOf M levels c s (suc k) U) where
  upper_parts : U.parts ≡ level levels c - suc k
  upper_parts = upper.parts ∙ row_later M levels c s k

  points : U.parts + 1 ≡ level levels c - k
  points = omega (arith, upper_parts)

  pub strip_fewer : U.parts < L.parts
  strip_fewer = omega (arith, points, lower.parts, row_wide M levels c s k l)

  over_is : (t e : ℕ) → t < L.parts → over_number s L U t e ≡ lower_corner M levels c s k t e
  unfolding over_number lower_corner
  over_is t zero b = lower.numbers t (omega arith)
  over_is t (suc zero) b = lower.numbers (t + 1) (omega arith)
  over_is t (suc (suc e)) b =
      let r = (apex_rises s L.parts (U.parts + 1) (omega arith) (omega (arith, strip_fewer))).below t b in
      upper.numbers (apex s L.parts (U.parts + 1) t) (omega arith)
      ∙ ap (λ (x : ℕ). point_number M levels c s (suc k) (apex s x (U.parts + 1) t)) lower.parts
      ∙ ap (λ (x : ℕ). point_number M levels c s (suc k) (apex s (row_segments M levels c s k) x t)) points

  under_is : (i e : ℕ) → i < U.parts → under_number s L U i e ≡ upper_corner M levels c s k i e
  unfolding under_number upper_corner
  under_is i zero b = upper.numbers (i + 1) (omega arith)
  under_is i (suc zero) b = upper.numbers i (omega arith)
  under_is i (suc (suc e)) b =
      let r = (foot_at s L.parts (U.parts + 1) i (omega (arith, strip_fewer)) (omega arith)).to in
      lower.numbers (foot s L.parts (U.parts + 1) i) (omega arith)
      ∙ ap (λ (x : ℕ). point_number M levels c s k (foot s x (U.parts + 1) i)) lower.parts
      ∙ ap (λ (x : ℕ). point_number M levels c s k (foot s (row_segments M levels c s k) x i)) points

  corner_is : (x : ℕ) → x < 3 * (L.parts + U.parts) → strip_number s L U x ≡ triangle_corner M levels c s k (x / 3) (x % 3)
  unfolding strip_number
  corner_is x b =
      test_less (x / 3) L.parts
      (λ q t. rw q (over_is (x / 3) (x % 3) t ∙ sym (lower_is M levels c s k (x / 3) (x % 3) (omega (arith, lower.parts)))))
      (λ q t. rw q (under_is (x / 3 - L.parts) (x % 3) (omega arith) ∙ sym (upper_is M levels c s k (x / 3 - L.parts) (x % 3))
      ∙ ap (λ (y : ℕ). triangle_corner M levels c s k y (x % 3)) (let z : row_segments M levels c s k + (x / 3 - L.parts) ≡ x / 3 = omega (arith, lower.parts) in z)))

  pub strip_index : (x : ℕ) → x < 3 * (L.parts + U.parts) → strip_number s L U x ≡ index_at M levels (3 * start_of (strip_sizes M levels) (strip_at c s k) + x)
  strip_index x b =
      let q : Triangle M levels c s k (x / 3) = record { corner = h; row = l; place = omega (arith, lower.parts, points) } in
      corner_is x b ∙ sym (index_is M levels c s k (x / 3) (leveled c h).1 q (x % 3) (omega arith)) ∙ ap (index_at M levels)
      (let z : 3 * (start_of (strip_sizes M levels) (strip_at c s k) + x / 3) + x % 3 ≡ 3 * start_of (strip_sizes M levels) (strip_at c s k) + x = omega arith in z)

  pub strip_next : start_of (strip_sizes M levels) (strip_at c s (k + 1)) ≡ start_of (strip_sizes M levels) (strip_at c s k) + (L.parts + U.parts)
  strip_next = strip_step M levels leveled c h s k (omega (arith, (leveled c h).1)) ∙ omega (arith, size_some M levels c s k l, lower.parts, points)

-- ---- starts rise
module _ (M : Mesh) (levels : List ℕ) where
  pub strips_rise : (i j : ℕ) → i ≤ j → j ≤ strips * corner_count M → start_of (strip_sizes M levels) i ≤ start_of (strip_sizes M levels) j
  strips_rise i j h l =
      subst (λ (x : ℕ). start_of (strip_sizes M levels) i ≤ start_of (strip_sizes M levels) x) (let z : i + (j - i) ≡ j = omega arith in z)
      (start_rises (strip_sizes M levels) i (j - i))

  pub side_first : (c side : ℕ) → side ≤ 3 → side_start M levels c side ≡ start_of (strip_sizes M levels) (strip_at c (side_at side) 0)
  side_first c side h =
      ap (start_of (strip_sizes M levels)) (let e = number_back side h in let z : strips * c + most_parts * side ≡ strip_at c (side_at side) 0 = omega arith in z)

  pub side_last : (c side : ℕ) → side ≤ 3 → side_start M levels c (side + 1) ≡ start_of (strip_sizes M levels) (strip_at c (side_at side) 16)
  side_last c side h =
      ap (start_of (strip_sizes M levels)) (let e = number_back side h in let z : strips * c + most_parts * (side + 1) ≡ strip_at c (side_at side) 16 = omega arith in z)

  pub corner_first : (c : ℕ) → side_start M levels c 0 ≡ triangles_before M levels c
  unfolding triangles_before
  corner_first c = ap (start_of (strip_sizes M levels)) (let z : strips * c + most_parts * 0 ≡ strips * c = omega arith in z)

  pub corner_last : (c : ℕ) → side_start M levels c 4 ≡ triangles_before M levels (c + 1)
  unfolding triangles_before
  corner_last c = ap (start_of (strip_sizes M levels)) (let z : strips * c + most_parts * 4 ≡ strips * (c + 1) = omega arith in z)

  pub sides_rise : (c i j : ℕ) → c < corner_count M → i ≤ j → j ≤ 4 → side_start M levels c i ≤ side_start M levels c j
  sides_rise c i j h a b = strips_rise (strips * c + most_parts * i) (strips * c + most_parts * j) (omega arith) (omega arith)

  pub corners_rise : (c d : ℕ) → c ≤ d → d ≤ corner_count M → triangles_before M levels c ≤ triangles_before M levels d
  unfolding triangles_before
  corners_rise c d a b = strips_rise (strips * c) (strips * d) (omega arith) (omega arith)
