-- What a corner's net gives for the corner's own points is what the list of points has there.
use mathlib.Core.Path.{◌≡◌, refl, sym, ap, ◌∙◌, subst}
use mathlib.Core.Logic.{⊎_elim}
use mathlib.Core.List.{List}
use Prim.Native.Nat.{ℕ, zero, suc, ◌+◌, ◌-◌, ◌*◌, ◌/◌, ◌%◌, ◌≤◌, ◌<◌}
use native.Mathlib.Omega.{arith}
use lib.Dec.{ltb, eqb}
use borrow.Author.Tests.{ltb-true, ltb-false}
use lib.ListN.{length, get_or, take, drop, length-take, length-drop}
use lib.Seq.{get_or-take, get_or-drop, ext_get_or}
use lib.IntN.{ℤ, pos}
use Rattle.paper.specs.Mesh.{Mesh, corner_count}
use Rattle.paper.specs.Corners.{start_of, face_of}
use Rattle.paper.specs.Scan.{pick_n}
use Rattle.paper.specs.Links.{vertex_of, lowest, link_table}
use Rattle.paper.specs.Numbers.{rounded}
use Rattle.paper.specs.Refined.{refined_of}
use Rattle.paper.specs.Floats.{net_verdict}
use Rattle.paper.specs.Faults.{sound, Accepted}
use Rattle.paper.specs.Net as quad
use Rattle.paper.specs.Net.{Side, side0, side1, side2}
use Rattle.paper.specs.Calls.{per_corner, number_at, nets}
use Rattle.paper.specs.Sampling.{sample_at, weights, side_at}
use Rattle.paper.specs.Triangles.{groups, vertex_owner, edge_owner, face_owner, level, segments, group_size, point_groups, number_in, turn_weights, owned, own_number}
use Rattle.paper.specs.Triangles.{coordinate_at, points_before}
use Rattle.mesh.proofs.Scans.{ways}
use Rattle.mesh.proofs.Links.{values_length, values_at}
use Rattle.borders.proofs.Ranges.{ranges}
use Rattle.borders.proofs.Nets.{nets_pass}
use Rattle.mesh.proofs.Faces.{OfFace, held, start_next, start_all}
use Rattle.net_points.specs.declared.writing.Shape.{Shape}
use Rattle.strips.specs.PointRows.{Fills}
use Rattle.triangles.specs.Owned.{ShapeOf, Pointed}
use Rattle.net_points.specs.writing.Laid.{Reaches}
use Rattle.net_points.specs.writing.Shapes.{shape_group, shape_rings, shape_start, shape_size, shape_number, ShapeAim, ShapePlace}
use Rattle.closing.proofs.Partners.{Leveled}
use Rattle.closing.proofs.Numbered.{In, groups_length, groups_at}
use Rattle.closing.proofs.Outer.{some_segments}
use Rattle.closing.proofs.Counts.{rings_before, group_step, ring_start, rings_all}
use Rattle.closing.proofs.Samples.{outer_is, inner_is, head_end, tail_end}
use Rattle.closing.proofs.Listed.{coordinate_is}
use Rattle.closing.proofs.Calls.{start_rises}
use Rattle.net_points.proofs.writing.Laws.{reaches_part}
use Rattle.net_points.proofs.writing.Groups.{no_size}
use Rattle.net_points.proofs.writing.Fill.{fills_of}

-- ---- ends that are a corner's own
pub vertex_size : (M : Mesh) (levels corners : List ℕ) (c a : ℕ) → M.corners ≡ corners → a ≡ pick_n (eqb c (lowest corners (vertex_of corners c))) 1 0
    → a ≡ group_size M levels c 0
unfolding group_size vertex_owner
vertex_size M levels corners c a e p = rw e p

pub edge_size : (M : Mesh) (levels : List ℕ) (c a : ℕ) → a ≡ pick_n (eqb c (edge_owner M c)) 1 0 → a ≡ group_size M levels c 1
unfolding group_size
edge_size M levels c a p = p

pub face_size : (M : Mesh) (levels : List ℕ) (c a : ℕ) → a ≡ pick_n (eqb c (face_owner M c)) 1 0 → a ≡ group_size M levels c 2
unfolding group_size
face_size M levels c a p = p

-- ---- the group that has a number between two starts
start_le : (l : List ℕ) (i j : ℕ) → i ≤ j → j ≤ length l → start_of l i ≤ start_of l j
start_le l i j h b = subst (λ (x : ℕ). start_of l i ≤ start_of l x) (let z : i + (j - i) ≡ j = omega arith in z) (start_rises l i (j - i))

group_of_lem : (l : List ℕ) (lo hi n : ℕ) → lo ≤ hi → hi ≤ length l → start_of l lo ≤ n → n < start_of l hi
    → (lo ≤ face_of l n) × (face_of l n < hi) × OfFace l n (face_of l n)
group_of_lem l lo hi n o b p q = (low, high, there)
  where
    there : OfFace l n (face_of l n)
    there = held l n (omega (arith, start_le l hi (length l) b (omega arith), start_all l (length l) (omega arith)))

    low : lo ≤ face_of l n
    low =
        ⊎_elim
        (λ e. let z = ltb-true (face_of l n) lo e in
        absurd (omega (arith, start_le l (face_of l n + 1) lo (omega arith) (omega arith), start_next l (face_of l n) there.exists, there.to)))
        (λ e. ltb-false (face_of l n) lo e) (ways (ltb (face_of l n) lo))

    high : face_of l n < hi
    high =
        ⊎_elim (λ e. ltb-true (face_of l n) hi e)
        (λ e. let z = ltb-false (face_of l n) hi e in absurd (omega (arith, start_le l hi (face_of l n) z (omega (arith, there.exists)), there.from)))
        (ways (ltb (face_of l n) hi))

module _ (M : Mesh) (levels : List ℕ) (ok : Accepted M) (leveled : Leveled M levels) (c : ℕ) (h : c < corner_count M) (s : Shape) (is : ShapeOf M levels c s) where
  -- ---- sizes and starts
  size_is : (g : ℕ) → shape_group s g ≡ group_size M levels c g
  unfolding shape_group group_size
  size_is zero = is.vertex
  size_is (suc zero) = is.edge
  size_is (suc (suc zero)) = is.face
  size_is (suc (suc (suc zero))) = ap (λ (x : ℕ). x - 1) is.first
  size_is (suc (suc (suc (suc zero)))) = ap (λ (x : ℕ). x - 1) is.second
  size_is (suc (suc (suc (suc (suc k))))) = rw is.levelled

  abbrev start_at : ℕ → ℕ
  start_at g = start_of (point_groups M levels) (groups * c + g)

  step : (g : ℕ) → g < groups → start_at (g + 1) ≡ start_at g + shape_group s g
  step g l = group_step M levels ok leveled c h g l ∙ ap (λ (x : ℕ). start_at g + x) (sym (size_is g))

  start0 : start_at 0 ≡ points_before M levels c
  unfolding points_before
  start0 = ap (start_of (point_groups M levels)) (let z : groups * c + 0 ≡ groups * c = omega arith in z)

  start1 : start_at 1 ≡ points_before M levels c + s.vertex
  unfolding shape_group
  start1 = step 0 (omega arith) ∙ omega (arith, start0)

  start2 : start_at 2 ≡ points_before M levels c + (s.vertex + s.edge)
  unfolding shape_group
  start2 = step 1 (omega arith) ∙ omega (arith, start1)

  start3 : start_at 3 ≡ points_before M levels c + (s.vertex + s.edge + s.face)
  unfolding shape_group
  start3 = step 2 (omega arith) ∙ omega (arith, start2)

  start4 : start_at 4 ≡ points_before M levels c + (s.vertex + s.edge + s.face + (s.first - 1))
  unfolding shape_group
  start4 = step 3 (omega arith) ∙ omega (arith, start3)

  start5 : start_at 5 ≡ points_before M levels c + shape_rings s
  unfolding shape_group
  start5 = step 4 (omega arith) ∙ omega (arith, start4)

  -- of a group that has points
  start_is : (g place : ℕ) → place < shape_group s g → start_at g ≡ points_before M levels c + shape_start s g
  unfolding shape_start rings_before
  start_is zero place l = start0 ∙ omega arith
  start_is (suc zero) place l = start1
  start_is (suc (suc zero)) place l = start2
  start_is (suc (suc (suc zero))) place l = start3
  start_is (suc (suc (suc (suc zero)))) place l = start4
  start_is (suc (suc (suc (suc (suc k))))) place l =
      let e = is.levelled in
      let b : k < level levels c = some k place l in
      ap start_at (let z : suc (suc (suc (suc (suc k)))) ≡ 5 + k = omega arith in z) ∙ ring_start M levels ok leveled c h k b
      ∙ ap (λ (x : ℕ). start_at 5 + 2 * (k * (2 * x - k - 1))) (sym e) ∙ ap (λ (x : ℕ). x + 2 * (k * (2 * s.level - k - 1))) start5
      ∙ grouped (2 * (k * (2 * s.level - k - 1)))
    where
      grouped : (r : ℕ) → points_before M levels c + shape_rings s + r ≡ points_before M levels c + (shape_rings s + r)
      grouped r = omega arith

      some : (k place : ℕ) → place < shape_group s (suc (suc (suc (suc (suc k))))) → k < level levels c
      some k place l =
          ⊎_elim (λ b. let z = ltb-true k (level levels c) b in z)
          (λ b. let z = ltb-false k (level levels c) b in let n = no_size s k (omega (arith, is.levelled)) in absurd (omega arith))
          (ways (ltb k (level levels c)))

  pub all_is : points_before M levels (c + 1) ≡ points_before M levels c + shape_size s
  unfolding points_before
  all_is =
      let r = rings_all M levels ok leveled c h in
      let q = ap (start_of (point_groups M levels)) (let z : groups * (c + 1) ≡ groups * c + 21 = omega arith in z) in
      q ∙ r ∙ ap (λ (x : ℕ). start_at 5 + 2 * (x * (x - 1)) + 1) (sym is.levelled)
      ∙ ap (λ (x : ℕ). x + 2 * (s.level * (s.level - 1)) + 1) five ∙ grouped (2 * (s.level * (s.level - 1)))
    where
      five : start_at 5 ≡ start_of (point_groups M levels) (groups * c) + shape_rings s
      five = start5

      grouped : (r : ℕ) → start_of (point_groups M levels) (groups * c) + shape_rings s + r + 1 ≡ start_of (point_groups M levels) (groups * c) + (shape_rings s + r + 1)
      grouped r = omega arith

  last_start : start_of (point_groups M levels) (groups * (c + 1)) ≡ points_before M levels (c + 1)
  unfolding points_before
  last_start = refl

  -- ---- the point at a place of a group
  pub in_group : (g place : ℕ) → g < groups → place < shape_group s g → In M levels (points_before M levels c + (shape_start s g + place)) c g place
  unfolding number_in
  in_group g place l b = record { corner = h; group = l; place = rw (size_is g) at b; number = omega (arith, start_is g place b) }

  -- ---- its numbers
  abbrev net : List ℤ
  net = nets M c 1

  module _ (axis : ℕ) where
    number_is : (g place : ℕ) → own_number M levels c g place axis ≡ shape_number net s g place axis
    unfolding own_number owned shape_number
    number_is zero place =
        outer_is M levels axis c side0 0
        ∙ (let z : segments M levels c side0 - 0 - 0 ≡ segments M levels c side0 = omega arith in λ i. sample_at net side0 (weights (z i) 0 0 (segments M levels c side0)) axis)
        ∙ head_end net side0 (segments M levels c side0) axis (some_segments M levels ok leveled c h side0)
    number_is (suc zero) place =
        outer_is M levels axis c side1 0
        ∙ (let z : segments M levels c side1 - 0 - 0 ≡ segments M levels c side1 = omega arith in λ i. sample_at net side1 (weights 0 (z i) 0 (segments M levels c side1)) axis)
        ∙ tail_end net side1 (segments M levels c side1) axis (some_segments M levels ok leveled c h side1)
    number_is (suc (suc zero)) place =
        outer_is M levels axis c side2 0
        ∙ (let z : segments M levels c side2 - 0 - 0 ≡ segments M levels c side2 = omega arith in λ i. sample_at net side2 (weights (z i) 0 0 (segments M levels c side2)) axis)
        ∙ head_end net side2 (segments M levels c side2) axis (some_segments M levels ok leveled c h side2)
    number_is (suc (suc (suc zero))) place =
        outer_is M levels axis c side0 (place + 1) ∙ ap (λ (x : ℕ). sample_at net side0 (turn_weights side0 x 0 (place + 1)) axis) (sym is.first)
    number_is (suc (suc (suc (suc zero)))) place =
        outer_is M levels axis c side1 (place + 1) ∙ ap (λ (x : ℕ). sample_at net side1 (turn_weights side1 x 0 (place + 1)) axis) (sym is.second)
    number_is (suc (suc (suc (suc (suc k))))) place =
        inner_is M levels axis c (side_at (place / (level levels c - suc k))) k (place % (level levels c - suc k))
        ∙ ap (λ (n : ℕ). sample_at net (side_at (place / (n - suc k))) (turn_weights (side_at (place / (n - suc k))) n (suc k) (place % (n - suc k))) axis) (sym is.levelled)

  -- ---- every place lies before the end
  pub place_below : (g place : ℕ) → g < groups → place < shape_group s g → shape_start s g + place < shape_size s
  place_below g place l b =
      let e = start_is g place b in let n = step g l in let t = all_is in
      let r = start_rises (point_groups M levels) (groups * c + (g + 1)) (groups * (c + 1) - (groups * c + (g + 1))) in
      let q = last_start in
      let m = ap (start_of (point_groups M levels)) (let z : groups * c + (g + 1) + (groups * (c + 1) - (groups * c + (g + 1))) ≡ groups * (c + 1) = omega arith in z) in
      omega arith

  -- ---- what the list is to hold
  pub shape_aim : (at : ℕ) (f : ℕ → ℤ) → ((x : ℕ) → x < 3 * shape_size s → f (at + x) ≡ coordinate_at M levels (3 * points_before M levels c + x))
      → ShapeAim net s at f
  shape_aim at f values g place axis l b a =
      let n = points_before M levels c + (shape_start s g + place) in
      let i = in_group g place l b in
      ap f (let z : at + 3 * (shape_start s g + place) + axis ≡ at + (3 * (shape_start s g + place) + axis) = omega arith in z)
      ∙ values (3 * (shape_start s g + place) + axis) (omega (arith, place_below g place l b))
      ∙ ap (coordinate_at M levels) (let z : 3 * points_before M levels c + (3 * (shape_start s g + place) + axis) ≡ 3 * (points_before M levels c + (shape_start s g + place)) + axis = omega arith in z)
      ∙ coordinate_is M levels (points_before M levels c + (shape_start s g + place)) c g place i axis a ∙ number_is axis g place

  -- ---- every place of the part is the place of a point
  pub shape_place : (at t : ℕ) → at ≤ t → t < at + 3 * shape_size s → ShapePlace s at t
  unfolding points_before
  shape_place at t l b = (g, place, axis, few, fits, omega arith, spot)
    where
      x : ℕ
      x = (t - at) / 3

      axis : ℕ
      axis = (t - at) % 3

      n : ℕ
      n = points_before M levels c + (t - at) / 3

      first_is : start_of (point_groups M levels) (groups * c) ≡ points_before M levels c
      first_is = refl

      last_is : start_of (point_groups M levels) (groups * (c + 1)) ≡ points_before M levels (c + 1)
      last_is = refl

      found : (groups * c ≤ face_of (point_groups M levels) n) × (face_of (point_groups M levels) n < groups * (c + 1)) × OfFace (point_groups M levels) n (face_of (point_groups M levels) n)
      found =
          group_of_lem (point_groups M levels) (groups * c) (groups * (c + 1)) n (omega arith) (omega (arith, groups_length M levels)) (omega (arith, first_is))
          (omega (arith, last_is, all_is))

      g : ℕ
      g = face_of (point_groups M levels) n - groups * c

      place : ℕ
      place = n - start_of (point_groups M levels) (face_of (point_groups M levels) n)

      here : groups * c + g ≡ face_of (point_groups M levels) n
      here = omega (arith, found.0)

      few : g < groups
      few = omega (arith, found.0, found.1)

      size : get_or (point_groups M levels) (face_of (point_groups M levels) n) 0 ≡ shape_group s g
      size =
          ap (λ (i : ℕ). get_or (point_groups M levels) i 0) (sym here) ∙ groups_at M levels (groups * c + g) (omega (arith, few))
          ∙ (let e : (groups * c + g) / groups ≡ c = omega (arith, few) in let f : (groups * c + g) % groups ≡ g = omega (arith, few) in λ z. group_size M levels (e z) (f z))
          ∙ sym (size_is g)

      fits : place < shape_group s g
      fits = omega (arith, size, found.2.from, found.2.to)

      begins_at : start_of (point_groups M levels) (face_of (point_groups M levels) n) ≡ points_before M levels c + shape_start s g
      begins_at = ap (start_of (point_groups M levels)) (sym here) ∙ start_is g place fits

      spot : t ≡ at + 3 * (shape_start s g + place) + axis
      spot = omega (arith, begins_at, found.2.from)

  -- ---- so the corner's points are put
  pub pointed : (at to : ℕ) (old out : List ℤ) → at + 3 * shape_size s ≤ length old → to ≡ at + 3 * shape_size s
      → ((f : ℕ → ℤ) → ShapeAim net s at f → Reaches f (ShapePlace s at) old out)
      → Pointed M levels (points_before M levels c) (points_before M levels (c + 1)) at to old out
  pointed at to old out room e r =
      let q = all_is in
      let n : 3 * shape_size s ≡ 3 * (points_before M levels (c + 1) - points_before M levels c) = omega arith in
      record {
        ends = omega arith;
        fills = subst (λ (x : ℕ). Fills (λ y. coordinate_at M levels (3 * points_before M levels c + y)) at x old out) n
            (fills_of (λ y. coordinate_at M levels (3 * points_before M levels c + y)) at (3 * shape_size s) old out room
            (λ f values. reaches_part (r f (shape_aim at f values)) (λ t p. shape_place at t p.0 p.1)));
      }

-- ---- the nets of a range, one by one
number_part : (M : Mesh) (first c j : ℕ) → j < per_corner → number_at rounded M first (per_corner * c + j) ≡ number_at rounded M (first + c) (0 + j)
unfolding number_at
number_part M first c j h =
    let p : (per_corner * c + j) % 3 ≡ (0 + j) % 3 = omega arith in
    let q : first + (per_corner * c + j) / per_corner ≡ first + c + (0 + j) / per_corner = omega arith in
    let r : (per_corner * c + j) % per_corner / 3 ≡ (0 + j) % per_corner / 3 = omega arith in
    λ z. get_or (quad.net (refined_of rounded M (p z)) (q z)) (r z) (pos 0)

pub nets_length : (M : Mesh) (first count : ℕ) → length (nets M first count) ≡ per_corner * count
unfolding nets
nets_length M first count = values_length _ 0 (per_corner * count)

module _ (M : Mesh) (first count c : ℕ) (h : c < count) where
  abbrev part : List ℤ
  part = take per_corner (drop (per_corner * c) (nets M first count))

  part_length : length part ≡ per_corner
  part_length = length-take per_corner (drop (per_corner * c) (nets M first count)) ∙ omega (arith, length-drop (per_corner * c) (nets M first count), (nets_length M first count))

  pub net_part : part ≡ nets M (first + c) 1
  unfolding nets
  net_part =
      ext_get_or (pos 0) part (nets M (first + c) 1) (part_length ∙ sym (values_length _ 0 (per_corner * 1)))
      (λ j l.
      let b : j < per_corner = omega (arith, part_length) in
      get_or-take per_corner (drop (per_corner * c) (nets M first count)) j (pos 0) b ∙ get_or-drop (per_corner * c) (nets M first count) j (pos 0)
      ∙ values_at (number_at rounded M first) (pos 0) 0 (per_corner * count) (per_corner * c + j) (omega arith)
      ∙ ap (number_at rounded M first) (let z : 0 + (per_corner * c + j) ≡ per_corner * c + j = omega arith in z) ∙ number_part M first c j b
      ∙ sym (values_at (number_at rounded M (first + c)) (pos 0) 0 (per_corner * 1) j (omega arith)))

  pub net_sound : Accepted M → first + count ≤ corner_count M → net_verdict part ≡ sound
  net_sound ok l =
      nets_pass M (link_table M) first count (nets M first count) (nets M first count)
      (ranges M ok first count (omega arith) l (nets M first count) (nets_length M first count)) c h
