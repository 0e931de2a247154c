-- What holds before each turn of the loops over strips, sides and corners.
use mathlib.Core.Path.{◌≡◌, sym, ap, ◌∙◌, subst}
use mathlib.Core.List.{List}
use Prim.Native.Nat.{ℕ, suc, ◌+◌, ◌-◌, ◌*◌, ◌≤◌, ◌<◌}
use native.Mathlib.Omega.{arith}
use lib.ListN.{length}
use Rattle.paper.specs.Mesh.{Mesh, corner_count}
use Rattle.paper.specs.Corners.{start_of}
use Rattle.paper.specs.Sampling.{most_parts, side_at}
use Rattle.paper.specs.Triangles.{level, strip_sizes, index_at, triangles_before, triangle_list}
use Rattle.paper.specs.File.{begins}
use Rattle.strips.specs.declared.NumberedRow.{NumberedRow}
use Rattle.strips.specs.PointRows.{row_number, RowFits, Strip, strip_number, ring_place, Fills}
use Rattle.numbering.specs.Meshed.{Of, PointsStarted, Starting, group_start}
use Rattle.index_list.specs.Rows.{RowOf, side_start, TrianglesPut}
use Rattle.strips.proofs.Cases.{number_back}
use Rattle.closing.proofs.Places.{strip_at}
use Rattle.closing.proofs.Counts.{rings_before, ring_start, none_more}
use Rattle.numbering.proofs.Lent.{below_of}
use Rattle.index_list.proofs.Rows.{ring_of}
use Rattle.index_list.proofs.Striped.{strip_fewer, strip_index, strip_next, strips_rise, side_first, side_last, corner_first, corner_last, sides_rise}
use Rattle.index_list.proofs.Striped.{corners_rise}
use Rattle.strips.proofs.Stood.{fills_join, put_join, put_as, filled_list}

-- ---- the row of ring k + 1
pub ring_row_of : {corners low table levels : List ℕ} (M : Mesh) (o : Of M corners low table levels) (c : ℕ) → c < length levels → (side n k w five ring : ℕ) (r : NumberedRow) → side ≤ 3
    → n ≡ level levels c → k < n → w ≡ n - k - 1 → five ≡ group_start M levels c 5 → ring ≡ 2 * (k * (2 * n - k - 1)) → r.parts ≡ w
    → ((j : ℕ) → j ≤ w → row_number r j ≡ five + ring + ring_place side w j) → RowOf M levels c (side_at side) (suc k) r
unfolding rings_before
ring_row_of {levels = levels} M o c h side n k w five ring r a e l v p q t numbers =
    let z : w ≡ level levels c - suc k = omega arith in
    let b = ring_start M levels o.accepted o.leveled c (below_of M o c h) k (omega arith) in
    let m : 2 * (k * (2 * n - k - 1)) ≡ 2 * (k * (2 * level levels c - k - 1)) = rw e in
    ring_of M levels c side k (five + ring) r a (t ∙ z) (omega arith)
    (subst (λ (x : ℕ). (j : ℕ) → j ≤ x → row_number r j ≡ five + ring + ring_place side x j) z numbers)

-- ---- before strip k of a side
module _ (M : Mesh) (levels : List ℕ) (c side at : ℕ) (old : List ℕ) where
  abbrev pub S : ℕ → ℕ
  S k = start_of (strip_sizes M levels) (strip_at c (side_at side) k)

  pub record SideAt (k to : ℕ) (out : List ℕ) (lower : NumberedRow) : Type 0 where
    pub row : RowOf M levels c (side_at side) k lower
    pub from : S 0 ≤ S k
    pub ends : to ≡ at + 3 * (S k - S 0)
    pub fills : Fills (λ x. index_at M levels (3 * S 0 + x)) at (3 * (S k - S 0)) old out

  module _ (leveled : (c : ℕ) → c < corner_count M → (1 ≤ level levels c) × (level levels c ≤ most_parts)) (h : c < corner_count M) (k : ℕ) (l : k < level levels c)
      (to : ℕ) (out : List ℕ) (L U : NumberedRow) (t : SideAt k to out L) (u : RowOf M levels c (side_at side) (suc k) U) where
    next_is : S (k + 1) ≡ S k + (L.parts + U.parts)
    next_is = strip_next M levels leveled c h (side_at side) k l L U t.row u

    pub side_fewer : U.parts < L.parts
    side_fewer = strip_fewer M levels leveled c h (side_at side) k l L U t.row u

    -- it stays within the side
    pub side_room : side ≤ 3 → (len : ℕ) → at + 3 * (side_start M levels c (side + 1) - side_start M levels c side) ≤ len → to + 3 * (L.parts + U.parts) ≤ len
    side_room b len r =
        let p = side_first M levels c side b in let q = side_last M levels c side b in
        let n = number_back side b in
        let m = strips_rise M levels (strip_at c (side_at side) (k + 1)) (strip_at c (side_at side) 16) (omega (arith, (leveled c h).1)) (omega arith) in
        omega (arith, next_is, t.from, t.ends)

    pub side_step : (new : List ℕ) → Fills (strip_number (side_at side) L U) to (3 * (L.parts + U.parts)) out new → SideAt (k + 1) (to + 3 * (L.parts + U.parts)) new U
    side_step new f =
        let e = next_is in
        record {
          row = subst (λ (x : ℕ). RowOf M levels c (side_at side) x U) (let z : suc k ≡ k + 1 = omega arith in z) u;
          from = omega (arith, t.from);
          ends = omega (arith, t.ends, t.from);
          fills = fills_join (index_at M levels) (strip_number (side_at side) L U) (S 0) (S k) (S (k + 1)) at to old out new t.from (omega arith) t.ends t.fills
              (subst (λ (x : ℕ). Fills (strip_number (side_at side) L U) to (3 * x) out new) (let z : L.parts + U.parts ≡ S (k + 1) - S k = omega arith in z) f)
              (λ x b. strip_index M levels leveled c h (side_at side) k l L U t.row u x (omega arith));
        }

  pub side_end : (leveled : (c : ℕ) → c < corner_count M → (1 ≤ level levels c) × (level levels c ≤ most_parts)) → c < corner_count M → side ≤ 3 → (k to : ℕ)
      (out : List ℕ) (L : NumberedRow) → k ≡ level levels c → SideAt k to out L → TrianglesPut M levels (side_start M levels c side) (side_start M levels c (side + 1)) at to old out
  side_end leveled h b k to out L e t =
      let p = side_first M levels c side b in let q = side_last M levels c side b in
      let few = (leveled c h).1 in
      let n = none_more M levels leveled c h (side_at side) (16 - level levels c) (omega arith) in
      let m = ap S (let z : level levels c + (16 - level levels c) ≡ 16 = omega arith in z) in
      let d = ap S e in
      let r : S k ≡ side_start M levels c (side + 1) = omega arith in
      subst (λ (x : ℕ). TrianglesPut M levels x (side_start M levels c (side + 1)) at to old out) (sym p)
      (subst (λ (x : ℕ). TrianglesPut M levels (S 0) x at to old out) r (record { ends = t.ends; fills = t.fills }))

-- ---- before strip k of a side, of every mesh
pub record StripTurn (corners low table levels starts : List ℕ) (c side : ℕ) (old : List ℕ) (at n five : ℕ) (out : List ℕ) (lower : NumberedRow) (to k : ℕ) : Type 0 where
  pub starting : Starting corners low table levels starts
  pub corner : c < length levels
  pub sides : side ≤ 3
  pub room : (M : Mesh) → PointsStarted M corners low table levels starts → at + 3 * (side_start M levels c (side + 1) - side_start M levels c side) ≤ length old
  pub level_is : n ≡ level levels c
  pub level_most : n ≤ 16
  pub five_small : five < 8388608
  pub five_is : (M : Mesh) → PointsStarted M corners low table levels starts → five ≡ group_start M levels c 5
  pub few : k ≤ n
  pub long : length out ≡ length old
  pub small : RowFits lower
  pub each : (M : Mesh) → PointsStarted M corners low table levels starts → SideAt M levels c side at old k to out lower

module _ {corners low table levels starts : List ℕ} {c side : ℕ} {old : List ℕ} {at n five : ℕ} {out : List ℕ} {lower : NumberedRow} {to k : ℕ}
    (t : StripTurn corners low table levels starts c side old at n five out lower to k) (l : k < n) (ring w : ℕ) (upper : NumberedRow) (r : ring ≡ 2 * (k * (2 * n - k - 1)))
    (v : w ≡ n - k - 1) (p : upper.parts ≡ w) (small : RowFits upper) (numbers : (j : ℕ) → j ≤ w → row_number upper j ≡ five + ring + ring_place side w j) where
  upper_of : (M : Mesh) → PointsStarted M corners low table levels starts → RowOf M levels c (side_at side) (suc k) upper
  upper_of M s = ring_row_of M s.of c t.corner side n k w five ring upper t.sides t.level_is l v (t.five_is M s) r p numbers

  pub turn_strip : Strip side lower upper
  turn_strip =
      let s = t.starting in
      record {
        side = t.sides;
        lower = t.small;
        upper = small;
        fewer = side_fewer s.mesh levels c side at old s.is.of.leveled (below_of s.mesh s.is.of c t.corner) k (omega (arith, t.level_is)) to out lower upper
            (t.each s.mesh s.is) (upper_of s.mesh s.is);
      }

  pub turn_room : to + 3 * (lower.parts + upper.parts) ≤ length out
  turn_room =
      let s = t.starting in
      let z = side_room s.mesh levels c side at old s.is.of.leveled (below_of s.mesh s.is.of c t.corner) k (omega (arith, t.level_is)) to out lower upper
      (t.each s.mesh s.is) (upper_of s.mesh s.is) t.sides (length old) (t.room s.mesh s.is) in
      omega (arith, t.long)

  pub turn_step : (new : List ℕ) → length new ≡ length out → Fills (strip_number (side_at side) lower upper) to (3 * (lower.parts + upper.parts)) out new → (to' : ℕ)
      → to' ≡ to + 3 * (lower.parts + upper.parts) → StripTurn corners low table levels starts c side old at n five new upper to' (k + 1)
  turn_step new e f to' q = record {
    starting = t.starting;
    corner = t.corner;
    sides = t.sides;
    room = t.room;
    level_is = t.level_is;
    level_most = t.level_most;
    five_small = t.five_small;
    five_is = t.five_is;
    few = omega arith;
    long = e ∙ t.long;
    small = small;
    each = λ M s. subst (λ (x : ℕ). SideAt M levels c side at old (k + 1) x new upper) (sym q)
        (side_step M levels c side at old s.of.leveled (below_of M s.of c t.corner) k (omega (arith, t.level_is)) to out lower upper (t.each M s) (upper_of M s) new f);
  }

pub turn_end : {corners low table levels starts : List ℕ} {c side : ℕ} {old : List ℕ} {at n five : ℕ} {out : List ℕ} {lower : NumberedRow} {to k : ℕ}
    → StripTurn corners low table levels starts c side old at n five out lower to k → n ≤ k → (M : Mesh) → PointsStarted M corners low table levels starts
    → TrianglesPut M levels (side_start M levels c side) (side_start M levels c (side + 1)) at to old out
turn_end {levels = levels} {c = c} {side = side} {old = old} {at = at} {out = out} {lower = lower} {to = to} {k = k} t l M s =
    side_end M levels c side at old s.of.leveled (below_of M s.of c t.corner) t.sides k to out lower (omega (arith, t.few, t.level_is)) (t.each M s)

-- ---- sides and corners
module _ {corners low table levels starts : List ℕ} (M : Mesh) (s : PointsStarted M corners low table levels starts) where
  module _ (c : ℕ) (h : c < length levels) where
    hc : c < corner_count M
    hc = below_of M s.of c h

    pub corner_room : (side at to len : ℕ) (old out : List ℕ) → side < 4 → TrianglesPut M levels (side_start M levels c 0) (side_start M levels c side) at to old out
        → at + 3 * (triangles_before M levels (c + 1) - triangles_before M levels c) ≤ len → to + 3 * (side_start M levels c (side + 1) - side_start M levels c side) ≤ len
    corner_room side at to len old out l p r =
        let a = corner_first M levels c in let b = corner_last M levels c in
        let x = sides_rise M levels c 0 side hc (omega arith) (omega arith) in let y = sides_rise M levels c side (side + 1) hc (omega arith) (omega arith) in
        let z = sides_rise M levels c (side + 1) 4 hc (omega arith) (omega arith) in
        omega (arith, p.ends)

    pub corner_step : (side at to to' : ℕ) (old out new : List ℕ) → side < 4 → TrianglesPut M levels (side_start M levels c 0) (side_start M levels c side) at to old out
        → TrianglesPut M levels (side_start M levels c side) (side_start M levels c (side + 1)) to to' out new
        → TrianglesPut M levels (side_start M levels c 0) (side_start M levels c (side + 1)) at to' old new
    corner_step side at to to' old out new l =
        put_join (index_at M levels) (side_start M levels c 0) (side_start M levels c side) (side_start M levels c (side + 1)) at to to' old out new
        (sides_rise M levels c 0 side hc (omega arith) (omega arith)) (sides_rise M levels c side (side + 1) hc (omega arith) (omega arith))

    pub corner_end : (side at to : ℕ) (old out : List ℕ) → side ≡ 4 → TrianglesPut M levels (side_start M levels c 0) (side_start M levels c side) at to old out
        → TrianglesPut M levels (triangles_before M levels c) (triangles_before M levels (c + 1)) at to old out
    corner_end side at to old out e =
        put_as (index_at M levels) (side_start M levels c 0) (side_start M levels c side) (triangles_before M levels c) (triangles_before M levels (c + 1)) at to old out
        (corner_first M levels c) (ap (side_start M levels c) e ∙ corner_last M levels c)

  module _ (first count : ℕ) (h : first + count ≤ length levels) where
    hf : first + count ≤ corner_count M
    hf = omega (arith, s.of.many)

    rise : (c d : ℕ) → c ≤ d → d ≤ first + count → triangles_before M levels c ≤ triangles_before M levels d
    rise c d p q = corners_rise M levels c d p (omega (arith, hf))

    pub corners_room : (c to len : ℕ) (old out : List ℕ) → first ≤ c → c < first + count
        → TrianglesPut M levels (triangles_before M levels first) (triangles_before M levels c) 0 to old out
        → 3 * (triangles_before M levels (first + count) - triangles_before M levels first) ≤ len
        → to + 3 * (triangles_before M levels (c + 1) - triangles_before M levels c) ≤ len
    corners_room c to len old out b l p r =
        let x = rise first c b (omega arith) in let y = rise c (c + 1) (omega arith) (omega arith) in
        let z = rise (c + 1) (first + count) (omega arith) (omega arith) in
        omega (arith, p.ends)

    pub corners_step : (c to to' : ℕ) (old out new : List ℕ) → first ≤ c → c < first + count
        → TrianglesPut M levels (triangles_before M levels first) (triangles_before M levels c) 0 to old out
        → TrianglesPut M levels (triangles_before M levels c) (triangles_before M levels (c + 1)) to to' out new
        → TrianglesPut M levels (triangles_before M levels first) (triangles_before M levels (c + 1)) 0 to' old new
    corners_step c to to' old out new b l =
        put_join (index_at M levels) (triangles_before M levels first) (triangles_before M levels c) (triangles_before M levels (c + 1)) 0 to to' old out new
        (rise first c b (omega arith)) (rise c (c + 1) (omega arith) (omega arith))

    pub corners_end : (c to : ℕ) (old out : List ℕ) → c ≡ first + count
        → TrianglesPut M levels (triangles_before M levels first) (triangles_before M levels c) 0 to old out → out ≡ begins (triangle_list M levels first count) old
    unfolding triangle_list
    corners_end c to old out e p =
        filled_list (index_at M levels) (triangles_before M levels first) (triangles_before M levels (first + count)) to old out
        (subst (λ (x : ℕ). TrianglesPut M levels (triangles_before M levels first) (triangles_before M levels x) 0 to old out) e p)
