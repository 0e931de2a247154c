-- `border_report::misses::side_misses` meets its contract: what `miss` makes of the values of the side and the points at a condition's place of the rows
-- is that condition.
use mathlib.Core.Path.{◌≡◌, ap, ◌∙◌}
use Prim.Native.Nat.{ℕ, zero, suc, ◌^◌, ◌≤◌}
use native.Mathlib.Omega.{arith}
use lib.Dec.{lit<}
use lib.ListN.{get_or}
use lib.IntN.{ℤ, pos, nat_abs, ◌+ℤ◌, ◌-ℤ◌, ◌*ℤ◌}
use mir.Syntax.{w32, w64}
use mir.Val.{SFits, to_z, of_z}
use mir.Facts.{to_z-of_z}
use Rattle.numbers.proofs.Machine.{abs_fits}
use Rattle.numbers.proofs.Poly.{over, poly}
use Rattle.paper.specs.Borders.{one}
use Rattle.surface.specs.Sizes.{ValueSize, WrittenSize, CosineSize}
use Rattle.net_rows.specs.sides.Values.{SideSized}
use Rattle.net_rows.specs.declared.sides.SideValues.{SideValues}
use Rattle.border_report.proofs.misses.side_misses.Goals as goal

-- ---- what is copied from a field is the field's number
abbrev plain : ℤ → ℤ
plain z = to_z w64 (of_z w64 z)

bounded : (z : ℤ) (k : ℕ) → nat_abs z ≤ k → k ≤ 2 ^ 62 → plain z ≡ z
bounded z k h l = to_z-of_z (abs_fits w64 z (2 ^ 62) (omega arith) (lit< tt))

cosine_same : (z : ℤ) → CosineSize z → plain z ≡ z
cosine_same z h = to_z-of_z (fits z h)
  where
    fits : (z : ℤ) → CosineSize z → SFits w64 z
    fits = over 1 _ λ ρ. simp (poly, ρ) (omega arith)

-- a value z of 32 bits that was widened to r
widened : (z r : ℤ) → ValueSize z → r ≡ to_z w32 (of_z w32 z) → plain r ≡ z
widened z r h e = rw (e ∙ to_z-of_z (abs_fits w32 z (2 ^ 25) h (lit< tt))) (bounded z (2 ^ 25) h (omega arith))

point_same : (z : ℤ) → WrittenSize z → plain z ≡ z
point_same z h = bounded z (2 ^ 26) (omega arith) (omega arith)

bent_same : (z : ℤ) → nat_abs z ≤ 2 ^ 60 → plain z ≡ z
bent_same z h = bounded z (2 ^ 60) h (omega arith)

-- ---- the bend of three points that were copied
abbrev bend_of : ℤ → ℤ → ℤ → ℤ
bend_of b a o = pos 4 *ℤ one *ℤ (a +ℤ o -ℤ pos 2 *ℤ b)

module _ (b a o : ℤ) (hb : WrittenSize b) (ha : WrittenSize a) (ho : WrittenSize o) where
  bendable : WrittenSize (plain b) × WrittenSize (plain a) × WrittenSize (plain o)
  bendable = rw (point_same b hb, point_same a ha, point_same o ho) (hb, ha, ho)

  bent : (d : ℤ) → (d ≡ pos 4 *ℤ one *ℤ (plain a +ℤ plain o -ℤ pos 2 *ℤ plain b)) × (nat_abs d ≤ 2 ^ 60)
      → plain d ≡ pos 4 *ℤ one *ℤ (a +ℤ o -ℤ pos 2 *ℤ b)
  bent d e = bent_same d e.1 ∙ e.0 ∙ rw (point_same a ha, point_same o ho, point_same b hb)

-- ---- the values of the side, widened, and its cosine
values : (v : SideValues) (h t x y : ℤ) → SideSized v → h ≡ to_z w32 (of_z w32 v.head) → t ≡ to_z w32 (of_z w32 v.tail) → x ≡ to_z w32 (of_z w32 v.x)
    → y ≡ to_z w32 (of_z w32 v.y)
    → (plain h ≡ v.head) × (plain t ≡ v.tail) × (plain x ≡ v.x) × (plain y ≡ v.y) × (plain v.cosine ≡ v.cosine)
values v h t x y z eh et ex ey =
    (widened _ _ z.head eh, widened _ _ z.tail et, widened _ _ z.x ex, widened _ _ z.y ey, cosine_same _ z.cosine)

-- ---- a difference of two values, and the sizes that `miss` asks
apart : (u v : ℤ) → ValueSize u → ValueSize v → SFits w64 (v -ℤ u) × (nat_abs (v -ℤ u) ≤ 2 ^ 26)
apart = over 2 _ λ ρ. simp poly (omega arith)

leant_same : (z : ℤ) → nat_abs z ≤ 2 ^ 57 → plain z ≡ z
leant_same z h = bounded z (2 ^ 57) h (omega arith)

step_same : (u v : ℤ) → ValueSize u → ValueSize v → plain (v -ℤ u) ≡ v -ℤ u
step_same u v hu hv = to_z-of_z (apart u v hu hv).0

sized : (b l u v : ℤ) → nat_abs b ≤ 2 ^ 60 → nat_abs l ≤ 2 ^ 57 → ValueSize u → ValueSize v
    → (nat_abs (plain b) ≤ 2 ^ 60) × (nat_abs (plain l) ≤ 2 ^ 57) × (nat_abs (plain (v -ℤ u)) ≤ 2 ^ 26)
sized b l u v hb hl hu hv = rw (bent_same b hb, leant_same l hl, step_same u v hu hv) (hb, hl, (apart u v hu hv).1)

-- ---- what `miss` makes of its arguments is the condition
first_is : (d c h x : ℤ) → d -ℤ pos 3 *ℤ ((one +ℤ c) *ℤ (x -ℤ h)) -ℤ pos 0 ≡ d -ℤ pos 3 *ℤ (one +ℤ c) *ℤ (x -ℤ h)
first_is = over 4 _ λ ρ. simp (poly, ρ) (omega arith)

second_is : (d c h x y : ℤ) → d -ℤ pos 2 *ℤ ((one +ℤ c) *ℤ (y -ℤ x)) -ℤ one *ℤ (x -ℤ h) ≡ d -ℤ pos 2 *ℤ (one +ℤ c) *ℤ (y -ℤ x) -ℤ one *ℤ (x -ℤ h)
second_is = over 5 _ λ ρ. simp (poly, ρ) (omega arith)

third_is : (d c t x y : ℤ) → d -ℤ pos 1 *ℤ ((one +ℤ c) *ℤ (t -ℤ y)) -ℤ pos 2 *ℤ one *ℤ (y -ℤ x) ≡ d -ℤ (one +ℤ c) *ℤ (t -ℤ y) -ℤ pos 2 *ℤ one *ℤ (y -ℤ x)
third_is = over 5 _ λ ρ. simp (poly, ρ) (omega arith)

fourth_is : (d t y : ℤ) → d -ℤ pos 0 -ℤ pos 3 *ℤ one *ℤ (t -ℤ y) ≡ d -ℤ pos 3 *ℤ one *ℤ (t -ℤ y)
fourth_is = over 3 _ λ ρ. simp (poly, ρ) (omega arith)

pub bend-b0-requires : goal.bend-b0-requires
bend-b0-requires c =
    let s = c.requires in
    bendable (get_or c.args.outer 0 (pos 0)) (get_or c.args.own 0 (pos 0)) (get_or c.args.other 0 (pos 0)) (s.1.small 0 (lit< tt)) (s.2.small 0 (lit< tt)) (s.3.small 0 (lit< tt))

pub bend-b1-requires : goal.bend-b1-requires
bend-b1-requires c =
    let s = c.requires in
    bendable (get_or c.args.outer 1 (pos 0)) (get_or c.args.own 1 (pos 0)) (get_or c.args.other 1 (pos 0)) (s.1.small 1 (lit< tt)) (s.2.small 1 (lit< tt)) (s.3.small 1 (lit< tt))

pub bend-b2-requires : goal.bend-b2-requires
bend-b2-requires c =
    let s = c.requires in
    bendable (get_or c.args.outer 2 (pos 0)) (get_or c.args.own 2 (pos 0)) (get_or c.args.other 2 (pos 0)) (s.1.small 2 (lit< tt)) (s.2.small 2 (lit< tt)) (s.3.small 2 (lit< tt))

pub bend-b3-requires : goal.bend-b3-requires
bend-b3-requires c =
    let s = c.requires in
    bendable (get_or c.args.outer 3 (pos 0)) (get_or c.args.own 3 (pos 0)) (get_or c.args.other 3 (pos 0)) (s.1.small 3 (lit< tt)) (s.2.small 3 (lit< tt)) (s.3.small 3 (lit< tt))

pub lean-requires : goal.lean-requires
lean-requires c =
    let w = values c.args.side _ _ _ _ c.requires.0 c.from-h.ensures c.from-t.ensures c.from-x.ensures c.from-y.ensures in
    let z = c.requires.0 in
    rw (w.4, w.0, w.2) (z.cosine, z.head, z.x)

pub lean-requires-2 : goal.lean-requires-2
lean-requires-2 c =
    let w = values c.args.side _ _ _ _ c.requires.0 c.from-h.ensures c.from-t.ensures c.from-x.ensures c.from-y.ensures in
    let z = c.requires.0 in
    rw (w.4, w.2, w.3) (z.cosine, z.x, z.y)

pub lean-requires-3 : goal.lean-requires-3
lean-requires-3 c =
    let w = values c.args.side _ _ _ _ c.requires.0 c.from-h.ensures c.from-t.ensures c.from-x.ensures c.from-y.ensures in
    let z = c.requires.0 in
    rw (w.4, w.3, w.1) (z.cosine, z.y, z.tail)

pub miss-requires-clause-sizes : goal.miss-requires-clause-sizes
miss-requires-clause-sizes c =
    let b = c.bend-b0.ensures.1 in
    let l = c.lean.ensures.1 in
    rw (bent_same c.bend-b0.result b, leant_same c.lean.result l) (b, l, omega arith)

pub miss-requires-2-clause-sizes : goal.miss-requires-2-clause-sizes
miss-requires-2-clause-sizes c =
    let w = values c.args.side _ _ _ _ c.requires.0 c.from-h.ensures c.from-t.ensures c.from-x.ensures c.from-y.ensures in
    let z = c.requires.0 in
    rw (w.2, w.0) (sized c.bend-b1.result c.lean-2.result c.args.side.head c.args.side.x c.bend-b1.ensures.1 c.lean-2.ensures.1 z.head z.x)

pub overflow_sub-x : goal.overflow_sub-x
overflow_sub-x c =
    let w = values c.args.side _ _ _ _ c.requires.0 c.from-h.ensures c.from-t.ensures c.from-x.ensures c.from-y.ensures in
    let z = c.requires.0 in
    rw (w.2, w.0) (apart c.args.side.head c.args.side.x z.head z.x).0

pub miss-requires-3-clause-sizes : goal.miss-requires-3-clause-sizes
miss-requires-3-clause-sizes c =
    let w = values c.args.side _ _ _ _ c.requires.0 c.from-h.ensures c.from-t.ensures c.from-x.ensures c.from-y.ensures in
    let z = c.requires.0 in
    rw (w.3, w.2) (sized c.bend-b2.result c.lean-3.result c.args.side.x c.args.side.y c.bend-b2.ensures.1 c.lean-3.ensures.1 z.x z.y)

pub overflow_sub-y : goal.overflow_sub-y
overflow_sub-y c =
    let w = values c.args.side _ _ _ _ c.requires.0 c.from-h.ensures c.from-t.ensures c.from-x.ensures c.from-y.ensures in
    let z = c.requires.0 in
    rw (w.3, w.2) (apart c.args.side.x c.args.side.y z.x z.y).0

pub miss-requires-4-clause-sizes : goal.miss-requires-4-clause-sizes
miss-requires-4-clause-sizes c =
    let w = values c.args.side _ _ _ _ c.requires.0 c.from-h.ensures c.from-t.ensures c.from-x.ensures c.from-y.ensures in
    let z = c.requires.0 in
    rw (w.1, w.3) (sized c.bend-b3.result (pos 0) c.args.side.y c.args.side.tail c.bend-b3.ensures.1 (omega arith) z.y z.tail)

pub overflow_sub-t : goal.overflow_sub-t
overflow_sub-t c =
    let w = values c.args.side _ _ _ _ c.requires.0 c.from-h.ensures c.from-t.ensures c.from-x.ensures c.from-y.ensures in
    let z = c.requires.0 in
    rw (w.1, w.3) (apart c.args.side.y c.args.side.tail z.y z.tail).0

pub returns : goal.returns
returns c zero few =
    let s = c.requires in
    let z = s.0 in
    let w = values c.args.side _ _ _ _ c.requires.0 c.from-h.ensures c.from-t.ensures c.from-x.ensures c.from-y.ensures in
    let b = bent (get_or c.args.outer 0 (pos 0)) (get_or c.args.own 0 (pos 0)) (get_or c.args.other 0 (pos 0)) (s.1.small 0 (lit< tt)) (s.2.small 0 (lit< tt)) (s.3.small 0 (lit< tt))
    c.bend-b0.result c.bend-b0.ensures in
    let l : plain c.lean.result ≡ (one +ℤ c.args.side.cosine) *ℤ (c.args.side.x -ℤ c.args.side.head) =
    leant_same c.lean.result c.lean.ensures.1 ∙ c.lean.ensures.0 ∙ rw (w.4, w.2, w.0) in
    c.miss.ensures ∙ rw (b, l) (ap nat_abs (first_is (bend_of (get_or c.args.outer 0 (pos 0)) (get_or c.args.own 0 (pos 0)) (get_or c.args.other 0 (pos 0))) c.args.side.cosine c.args.side.head c.args.side.x))
returns c (suc zero) few =
    let s = c.requires in
    let z = s.0 in
    let w = values c.args.side _ _ _ _ c.requires.0 c.from-h.ensures c.from-t.ensures c.from-x.ensures c.from-y.ensures in
    let b = bent (get_or c.args.outer 1 (pos 0)) (get_or c.args.own 1 (pos 0)) (get_or c.args.other 1 (pos 0)) (s.1.small 1 (lit< tt)) (s.2.small 1 (lit< tt)) (s.3.small 1 (lit< tt))
    c.bend-b1.result c.bend-b1.ensures in
    let l : plain c.lean-2.result ≡ (one +ℤ c.args.side.cosine) *ℤ (c.args.side.y -ℤ c.args.side.x) =
    leant_same c.lean-2.result c.lean-2.ensures.1 ∙ c.lean-2.ensures.0 ∙ rw (w.4, w.3, w.2) in
    c.miss-2.ensures ∙ rw (b, l, w.2, w.0, step_same c.args.side.head c.args.side.x z.head z.x) (ap nat_abs (second_is (bend_of (get_or c.args.outer 1 (pos 0)) (get_or c.args.own 1 (pos 0)) (get_or c.args.other 1 (pos 0))) c.args.side.cosine c.args.side.head c.args.side.x c.args.side.y))
returns c (suc (suc zero)) few =
    let s = c.requires in
    let z = s.0 in
    let w = values c.args.side _ _ _ _ c.requires.0 c.from-h.ensures c.from-t.ensures c.from-x.ensures c.from-y.ensures in
    let b = bent (get_or c.args.outer 2 (pos 0)) (get_or c.args.own 2 (pos 0)) (get_or c.args.other 2 (pos 0)) (s.1.small 2 (lit< tt)) (s.2.small 2 (lit< tt)) (s.3.small 2 (lit< tt))
    c.bend-b2.result c.bend-b2.ensures in
    let l : plain c.lean-3.result ≡ (one +ℤ c.args.side.cosine) *ℤ (c.args.side.tail -ℤ c.args.side.y) =
    leant_same c.lean-3.result c.lean-3.ensures.1 ∙ c.lean-3.ensures.0 ∙ rw (w.4, w.1, w.3) in
    c.miss-3.ensures ∙ rw (b, l, w.3, w.2, step_same c.args.side.x c.args.side.y z.x z.y) (ap nat_abs (third_is (bend_of (get_or c.args.outer 2 (pos 0)) (get_or c.args.own 2 (pos 0)) (get_or c.args.other 2 (pos 0))) c.args.side.cosine c.args.side.tail c.args.side.x c.args.side.y))
returns c (suc (suc (suc zero))) few =
    let s = c.requires in
    let z = s.0 in
    let w = values c.args.side _ _ _ _ c.requires.0 c.from-h.ensures c.from-t.ensures c.from-x.ensures c.from-y.ensures in
    let b = bent (get_or c.args.outer 3 (pos 0)) (get_or c.args.own 3 (pos 0)) (get_or c.args.other 3 (pos 0)) (s.1.small 3 (lit< tt)) (s.2.small 3 (lit< tt)) (s.3.small 3 (lit< tt))
    c.bend-b3.result c.bend-b3.ensures in
    c.miss-4.ensures ∙ rw (b, w.1, w.3, step_same c.args.side.y c.args.side.tail z.y z.tail) (ap nat_abs (fourth_is (bend_of (get_or c.args.outer 3 (pos 0)) (get_or c.args.own 3 (pos 0)) (get_or c.args.other 3 (pos 0))) c.args.side.tail c.args.side.y))
returns c (suc (suc (suc (suc j)))) few = absurd (omega arith)
