-- What each part of `put_pairs` is to write, and that the parts are all of them.
use mathlib.Core.Path.{◌≡◌, sym, ap, ◌∙◌, subst}
use mathlib.Core.List.{List}
use Prim.Native.Nat.{ℕ, suc, ◌+◌, ◌-◌, ◌*◌, ◌≤◌, ◌<◌}
use native.Mathlib.Nat.{zero-div, zero-mod}
use native.Mathlib.Omega.{arith}
use lib.Dec.{lit<}
use lib.ListN.{get_or}
use lib.IntN.{ℤ, pos}
use Rattle.paper.specs.Net.{side0}
use Rattle.paper.specs.Sampling.{side_at}
use Rattle.paper.specs.Triangles.{groups, turn_weights}
use Rattle.paper.specs.Tangents.{tangent_pair}
use Rattle.net_points.specs.declared.writing.Shape.{Shape}
use Rattle.strips.specs.PointRows.{FilledTo, Fills}
use Rattle.net_points.specs.writing.Shapes.{Shapely, shape_group, shape_rings, shape_start, shape_size}
use Rattle.net_points.proofs.writing.Laws.{sides_room}
use Rattle.net_points.proofs.writing.Groups.{ring_size, centre_size, centre_start}
use Rattle.net_tangents.specs.Paired.{part_number, RingPairs, CentrePair, RingsPaired, shape_pair, PairAim}
use Rattle.closing.proofs.Listed.{ring_side, ring_rest}
use Rattle.net_tangents.proofs.Laws.{part_filled}

module _ (numbers : List ℤ) (s : Shape) (ok : Shapely s) (third at : ℕ) (f : ℕ → ℤ) (aim : PairAim numbers s third at f) where
  -- the tangents at place j of a side's border in n parts
  abbrev border_pair : ℕ → ℕ → ℕ → List ℤ
  border_pair side n j = tangent_pair numbers (side_at side) (turn_weights (side_at side) n 0 j)

  -- a group that is written as a part of a border
  part_put : (g side n first to : ℕ) (old a b : List ℤ) → g < groups → to ≡ at + 6 * shape_start s g
      → ((j : ℕ) → j < shape_group s g → shape_pair numbers s third g j ≡ border_pair side n (first + j)) → FilledTo f old to a
      → Fills (part_number numbers side n 0 first) to (6 * shape_group s g) a b → FilledTo f old (to + 6 * shape_group s g) b
  part_put g side n first to old a b few there same q p =
      part_filled numbers side n 0 first (shape_group s g) to a b old f p q (λ j e l h.
      ap f (let z : to + 6 * j + e ≡ at + 6 * (shape_start s g + j) + e = omega arith in z) ∙ aim g j e few l h ∙ ap (λ (l : List ℤ). get_or l e (pos 0)) (same j l))

  alone : (m j : ℕ) → m ≤ 1 → j < m → 0 ≡ 0 + j
  alone m j h l = omega arith

  abbrev rings_from : ℕ
  rings_from = at + 6 * s.vertex + 6 * s.edge + 6 * s.face + 6 * (s.first - 1) + 6 * (s.second - 1)

  ring_place_lem : (side w j r : ℕ) → at + 6 * (shape_rings s + r + (side * w + j)) ≡ rings_from + 6 * (r + side * w + j)
  ring_place_lem side w j r = omega arith

  rings_aim : RingPairs numbers s.level rings_from f
  unfolding shape_start shape_pair
  rings_aim side k j e l h b =
      let few : side * (s.level - suc k) + j < 4 * (s.level - suc k) = omega (arith, sides_room side (s.level - suc k) l) in
      ap f (ap (λ (x : ℕ). x + e) (sym (ring_place_lem side (s.level - suc k) j (2 * (k * (2 * s.level - k - 1))))))
      ∙ aim (suc (suc (suc (suc (suc k))))) (side * (s.level - suc k) + j) e (omega (arith, ok.few_level))
      (let z = ring_size s k (omega arith) in let q : 4 * (s.level - suc k) ≡ 4 * (s.level - (k + 1)) = omega arith in omega arith) b
      ∙ (let p = ap side_at (ring_side side (s.level - suc k) j h) in let q = ring_rest side (s.level - suc k) j h in
      λ z. get_or (tangent_pair numbers (p z) (turn_weights (p z) s.level (suc k) (q z))) e (pos 0))

  centre_pair : (k : ℕ) → suc k ≡ s.level → shape_pair numbers s third (suc (suc (suc (suc (suc k))))) 0 ≡ tangent_pair numbers side0 (turn_weights side0 s.level s.level 0)
  unfolding shape_pair
  centre_pair k e =
      (let p = ap side_at (zero-div (s.level - suc k)) in let q = zero-mod (s.level - suc k) in
      λ z. tangent_pair numbers (p z) (turn_weights (p z) s.level (suc k) (q z)))
      ∙ ap (λ (x : ℕ). tangent_pair numbers side0 (turn_weights side0 s.level x 0)) e

  centre_aim : CentrePair numbers s.level rings_from f
  centre_aim e b =
      let q : suc (s.level - 1) ≡ s.level = omega (arith, ok.some_level) in
      let m : s.level - 1 + 1 ≡ s.level = omega (arith, ok.some_level) in
      let t = centre_start s (s.level - 1) m in
      ap f (ap (λ (x : ℕ). x + e) (sym (ap (λ (x : ℕ). at + 6 * (x + 0)) t ∙ shift (s.level * (s.level - 1)))))
      ∙ aim (suc (suc (suc (suc (suc (s.level - 1)))))) 0 e (omega (arith, ok.few_level)) (omega (arith, centre_size s (s.level - 1) m)) b
      ∙ ap (λ (l : List ℤ). get_or l e (pos 0)) (centre_pair (s.level - 1) q)
    where
      shift : (r : ℕ) → at + 6 * (shape_rings s + 2 * r + 0) ≡ rings_from + 6 * (2 * r)
      shift r = omega arith

  all_end : rings_from + 6 * (2 * (s.level * (s.level - 1)) + 1) ≡ at + 6 * shape_size s
  all_end = line (2 * (s.level * (s.level - 1)))
    where
      line : (r : ℕ) → rings_from + 6 * (r + 1) ≡ at + 6 * (shape_rings s + r + 1)
      line r = omega arith

  pub net_paired : (old a b c d e g h : List ℤ) → FilledTo f old at a
      → Fills (part_number numbers 0 s.first 0 0) at (6 * s.vertex) a b
      → Fills (part_number numbers 1 s.second 0 0) (at + 6 * s.vertex) (6 * s.edge) b c
      → Fills (part_number numbers 2 third 0 0) (at + 6 * s.vertex + 6 * s.edge) (6 * s.face) c d
      → Fills (part_number numbers 0 s.first 0 1) (at + 6 * s.vertex + 6 * s.edge + 6 * s.face) (6 * (s.first - 1)) d e
      → Fills (part_number numbers 1 s.second 0 1) (at + 6 * s.vertex + 6 * s.edge + 6 * s.face + 6 * (s.first - 1)) (6 * (s.second - 1)) e g
      → RingsPaired numbers s.level rings_from g h → FilledTo f old (at + 6 * shape_size s) h
  unfolding shape_group shape_start shape_pair
  net_paired old a b c d e g h q p0 p1 p2 p3 p4 p5 =
      let r0 = part_put 0 0 s.first 0 _ old a b (lit< tt) (omega arith) (λ j l. ap (border_pair 0 s.first) (alone s.vertex j ok.vertex l)) q p0 in
      let r1 = part_put 1 1 s.second 0 _ old b c (lit< tt) (omega arith) (λ j l. ap (border_pair 1 s.second) (alone s.edge j ok.edge l)) r0 p1 in
      let r2 = part_put 2 2 third 0 _ old c d (lit< tt) (omega arith) (λ j l. ap (border_pair 2 third) (alone s.face j ok.face l)) r1 p2 in
      let r3 = part_put 3 0 s.first 1 _ old d e (lit< tt) (omega arith) (λ j l. ap (border_pair 0 s.first) (omega arith)) r2 p3 in
      let r4 = part_put 4 1 s.second 1 _ old e g (lit< tt) (omega arith) (λ j l. ap (border_pair 1 s.second) (omega arith)) r3 p4 in
      subst (λ (x : ℕ). FilledTo f old x h) all_end (p5 f old r4 rings_aim centre_aim)
