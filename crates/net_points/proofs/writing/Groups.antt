-- The groups of a corner's points: what each part of `put_net` is to write, and that the parts are all of them.
use mathlib.Core.Path.{◌≡◌, refl, sym, ap, ◌∙◌}
use mathlib.Core.Logic.{◌⊎◌, inl, inr, ⊎_elim}
use mathlib.Core.List.{List}
use Prim.Native.Nat.{ℕ, zero, suc, ◌+◌, ◌-◌, ◌*◌, ◌/◌, ◌%◌, ◌≤◌, ◌<◌}
use native.Mathlib.Nat.{zero-div, zero-mod, div-lt_iff_lt-mul, div-add-mod', mod-lt}
use native.Mathlib.Omega.{arith}
use borrow.Author.Tests.{lt-ltb, le-ltb, eq-eqb, ne_eqb}
use lib.IntN.{ℤ}
use Rattle.paper.specs.Net.{side0}
use Rattle.paper.specs.Sampling.{on_axis, weights, sample_at, side_at}
use Rattle.paper.specs.Triangles.{groups, turn_weights}
use Rattle.mesh.proofs.Scans.{compared}
use Rattle.net_points.specs.declared.writing.Shape.{Shape}
use Rattle.net_points.specs.writing.Laid.{Reaches, EndAim, EndPlace, CurveAim, CurvePlace, RingsAim, RingsPlace}
use Rattle.net_points.specs.writing.Shapes.{Shapely, shape_group, shape_rings, shape_start, shape_number, ShapeAim, ShapePlace}
use Rattle.closing.proofs.Listed.{ring_side, ring_rest}
use Rattle.closing.proofs.Samples.{centre_end}
use Rattle.net_points.proofs.writing.Laws.{reaches_part, reaches_more, sides_room, rings_last}

-- ---- the size of a ring
module _ (s : Shape) (k : ℕ) where
  pub ring_size : k + 1 < s.level → shape_group s (suc (suc (suc (suc (suc k))))) ≡ 4 * (s.level - (k + 1))
  unfolding shape_group
  ring_size h = rw (lt-ltb (k + 1) s.level h)

  pub centre_size : k + 1 ≡ s.level → shape_group s (suc (suc (suc (suc (suc k))))) ≡ 1
  unfolding shape_group
  centre_size e = rw (le-ltb (k + 1) s.level (let z : s.level ≤ k + 1 = omega arith in z), eq-eqb (k + 1) s.level e)

  pub no_size : s.level < k + 1 → shape_group s (suc (suc (suc (suc (suc k))))) ≡ 0
  unfolding shape_group
  no_size h = rw (le-ltb (k + 1) s.level (let z : s.level ≤ k + 1 = omega arith in z), ne_eqb (k + 1) s.level (λ e. omega arith))

  -- where the centre stands
  pub centre_start : k + 1 ≡ s.level → shape_start s (suc (suc (suc (suc (suc k))))) ≡ shape_rings s + 2 * (s.level * (s.level - 1))
  unfolding shape_start
  centre_start e = ap (λ (x : ℕ). shape_rings s + x) (rings_last s.level k e)

-- ---- what the parts are to write
module _ (numbers : List ℤ) (s : Shape) (ok : Shapely s) (at : ℕ) (f : ℕ → ℤ) (aim : ShapeAim numbers s at f) where
  pub vertex_aim : EndAim numbers 0 s.vertex at f
  unfolding shape_group shape_start shape_number
  vertex_aim e axis a =
      ap f (let z : at + axis ≡ at + 3 * (0 + 0) + axis = omega arith in z) ∙ aim 0 0 axis (omega arith) (let z : 0 < s.vertex = omega arith in z) a

  pub edge_aim : EndAim numbers 4 s.edge (at + 3 * s.vertex) f
  unfolding shape_group shape_start shape_number
  edge_aim e axis a =
      ap f (let z : at + 3 * s.vertex + axis ≡ at + 3 * (s.vertex + 0) + axis = omega arith in z)
      ∙ aim 1 0 axis (omega arith) (let z : 0 < s.edge = omega arith in z) a

  pub face_aim : EndAim numbers 24 s.face (at + 3 * s.vertex + 3 * s.edge) f
  unfolding shape_group shape_start shape_number
  face_aim e axis a =
      ap f (let z : at + 3 * s.vertex + 3 * s.edge + axis ≡ at + 3 * (s.vertex + s.edge + 0) + axis = omega arith in z)
      ∙ aim 2 0 axis (omega arith) (let z : 0 < s.face = omega arith in z) a

  pub first_aim : CurveAim numbers 0 s.first (at + 3 * s.vertex + 3 * s.edge + 3 * s.face) f
  unfolding shape_group shape_start shape_number
  first_aim j axis h a =
      ap f (let z : at + 3 * s.vertex + 3 * s.edge + 3 * s.face + 3 * j + axis ≡ at + 3 * (s.vertex + s.edge + s.face + j) + axis = omega arith in z)
      ∙ aim 3 j axis (omega arith) (let z : j < s.first - 1 = omega arith in z) a

  pub second_aim : CurveAim numbers 1 s.second (at + 3 * s.vertex + 3 * s.edge + 3 * s.face + 3 * (s.first - 1)) f
  unfolding shape_group shape_start shape_number
  second_aim j axis h a =
      ap f (let z : at + 3 * s.vertex + 3 * s.edge + 3 * s.face + 3 * (s.first - 1) + 3 * j + axis
      ≡ at + 3 * (s.vertex + s.edge + s.face + (s.first - 1) + j) + axis = omega arith in z)
      ∙ aim 4 j axis (omega arith) (let z : j < s.second - 1 = omega arith in z) a

  abbrev rings_from : ℕ
  rings_from = at + 3 * s.vertex + 3 * s.edge + 3 * s.face + 3 * (s.first - 1) + 3 * (s.second - 1)

  ring_place_lem : (side k w j r : ℕ) → r ≡ 2 * (k * (2 * s.level - k - 1)) → at + 3 * (shape_rings s + r + (side * w + j)) ≡ rings_from + 3 * (r + side * w + j)
  ring_place_lem side k w j r e = omega arith

  pub rings_aim : RingsAim numbers s.level rings_from f
  unfolding shape_start shape_number
  rings_aim side k j axis l h a =
      let few : side * (s.level - suc k) + j < 4 * (s.level - suc k) = omega (arith, sides_room side (s.level - suc k) l) in
      ap f (ap (λ (x : ℕ). x + axis) (sym (ring_place_lem side k (s.level - suc k) j (2 * (k * (2 * s.level - k - 1))) refl)))
      ∙ aim (suc (suc (suc (suc (suc k))))) (side * (s.level - suc k) + j) axis (omega (arith, ok.few_level))
      (let z = ring_size s k (omega arith) in let q : 4 * (s.level - suc k) ≡ 4 * (s.level - (k + 1)) = omega arith in omega arith) a
      ∙ (let p = ap side_at (ring_side side (s.level - suc k) j h) in let q = ring_rest side (s.level - suc k) j h in
      λ z. sample_at numbers (p z) (turn_weights (p z) s.level (suc k) (q z)) axis)

  centre_number : (k axis : ℕ) → suc k ≡ s.level → shape_number numbers s (suc (suc (suc (suc (suc k))))) 0 axis ≡ on_axis numbers axis 12
  unfolding shape_number
  centre_number k axis e =
      (let p = ap side_at (zero-div (s.level - suc k)) in let q = zero-mod (s.level - suc k) in
      λ z. sample_at numbers (p z) (turn_weights (p z) s.level (suc k) (q z)) axis)
      ∙ (let p : s.level - suc k - 0 ≡ 0 = omega arith in λ z. sample_at numbers side0 (weights (p z) 0 (e z) s.level) axis)
      ∙ centre_end numbers side0 s.level axis ok.some_level

  pub centre_aim : EndAim numbers 12 1 (rings_from + 6 * (s.level * (s.level - 1))) f
  centre_aim e axis a =
      let k = s.level - 1 in
      let q : suc (s.level - 1) ≡ s.level = omega (arith, ok.some_level) in
      let m : s.level - 1 + 1 ≡ s.level = omega (arith, ok.some_level) in
      let t = centre_start s (s.level - 1) m in
      ap f (ap (λ (x : ℕ). x + axis) (sym (ap (λ (x : ℕ). at + 3 * (x + 0)) t ∙ shift (s.level * (s.level - 1)))))
      ∙ aim (suc (suc (suc (suc (suc (s.level - 1)))))) 0 axis (omega (arith, ok.few_level)) (omega (arith, centre_size s (s.level - 1) m)) a
      ∙ centre_number (s.level - 1) axis q
    where
      shift : (r : ℕ) → at + 3 * (shape_rings s + 2 * r + 0) ≡ rings_from + 6 * r
      shift r = omega arith

  -- ---- the parts are all
  abbrev Parts : ℕ → Type 0
  Parts t =
      (((((EndPlace s.vertex at t ⊎ EndPlace s.edge (at + 3 * s.vertex) t) ⊎ EndPlace s.face (at + 3 * s.vertex + 3 * s.edge) t)
      ⊎ CurvePlace s.first (at + 3 * s.vertex + 3 * s.edge + 3 * s.face) t)
      ⊎ CurvePlace s.second (at + 3 * s.vertex + 3 * s.edge + 3 * s.face + 3 * (s.first - 1)) t)
      ⊎ RingsPlace s.level rings_from 4 t)
      ⊎ EndPlace 1 (rings_from + 6 * (s.level * (s.level - 1))) t

  part_of : (t g place axis : ℕ) → g < groups → place < shape_group s g → axis < 3 → t ≡ at + 3 * (shape_start s g + place) + axis → Parts t
  unfolding shape_group shape_start
  part_of t zero place axis g h a q = inl (inl (inl (inl (inl (inl (omega (arith, ok.vertex), (axis, a, omega (arith, ok.vertex))))))))
  part_of t (suc zero) place axis g h a q = inl (inl (inl (inl (inl (inr (omega (arith, ok.edge), (axis, a, omega (arith, ok.edge))))))))
  part_of t (suc (suc zero)) place axis g h a q = inl (inl (inl (inl (inr (omega (arith, ok.face), (axis, a, omega (arith, ok.face)))))))
  part_of t (suc (suc (suc zero))) place axis g h a q = inl (inl (inl (inr (place, axis, omega arith, a, omega arith))))
  part_of t (suc (suc (suc (suc zero)))) place axis g h a q = inl (inl (inr (place, axis, omega arith, a, omega arith)))
  part_of t (suc (suc (suc (suc (suc k))))) place axis g h a q =
      ⊎_elim
      (λ (e : k + 1 ≡ s.level).
      let z = centre_size s k e in
      let p : place ≡ 0 = omega arith in
      inr (refl, (axis, a, q ∙ ap (λ (x : ℕ). x + axis) (ap (λ (x : ℕ). at + 3 * (x + place)) (centre_start s k e) ∙ ending (s.level * (s.level - 1)) place p))))
      (λ o. ⊎_elim
      (λ (l : k + 1 < s.level).
      let z = ring_size s k l in
      let w = s.level - suc k in
      let b : place < 4 * (s.level - suc k) = omega arith in
      let some : 0 < s.level - suc k = omega arith in
      inl (inr (
        place / (s.level - suc k),
        k,
        place % (s.level - suc k),
        axis,
        (div-lt_iff_lt-mul {k = s.level - suc k} {x = place} {y = 4} some).1 b,
        mod-lt place some,
        a,
        q ∙ ap (λ (x : ℕ). x + axis)
            (ap (λ (x : ℕ). at + 3 * (shape_rings s + 2 * (k * (2 * s.level - k - 1)) + x)) (sym (div-add-mod' place (s.level - suc k)))
            ∙ ring_place_lem (place / (s.level - suc k)) k (s.level - suc k) (place % (s.level - suc k)) (2 * (k * (2 * s.level - k - 1))) refl),
      )))
      (λ (l : s.level < k + 1). absurd (let z = no_size s k l in omega arith)) o)
      (compared (k + 1) s.level)
    where
      ending : (r place : ℕ) → place ≡ 0 → at + 3 * (shape_rings s + 2 * r + place) ≡ rings_from + 6 * r
      ending r place e = omega arith

  pub parts_all : {old new : List ℤ} → Reaches f Parts old new → Reaches f (ShapePlace s at) old new
  parts_all r = reaches_part r (λ t p. part_of t p.0 p.1 p.2 p.3 p.4 p.5 p.6)

  module _ (a b c d e g h i : List ℤ) (p0 : Reaches f (EndPlace s.vertex at) a b) (p1 : Reaches f (EndPlace s.edge (at + 3 * s.vertex)) b c)
      (p2 : Reaches f (EndPlace s.face (at + 3 * s.vertex + 3 * s.edge)) c d)
      (p3 : Reaches f (CurvePlace s.first (at + 3 * s.vertex + 3 * s.edge + 3 * s.face)) d e)
      (p4 : Reaches f (CurvePlace s.second (at + 3 * s.vertex + 3 * s.edge + 3 * s.face + 3 * (s.first - 1))) e g)
      (p5 : Reaches f (RingsPlace s.level rings_from 4) g h) (p6 : Reaches f (EndPlace 1 (rings_from + 6 * (s.level * (s.level - 1)))) h i) where
    pub net_put : Reaches f (ShapePlace s at) a i
    net_put = parts_all (reaches_more (reaches_more (reaches_more (reaches_more (reaches_more (reaches_more p0 p1) p2) p3) p4) p5) p6)
