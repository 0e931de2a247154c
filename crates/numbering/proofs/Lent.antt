-- Laws of the lists that the functions are lent: what they ask of each other, and where a corner's groups of points start.
use mathlib.Core.Path.{◌≡◌, refl, sym, ap, ◌∙◌}
use mathlib.Core.List.{List}
use Prim.Native.Nat.{ℕ, ◌+◌, ◌-◌, ◌*◌, ◌≤◌, ◌<◌}
use native.Mathlib.Omega.{arith}
use lib.Dec.{eqb}
use lib.ListN.{length, get_or}
use borrow.Author.Tests.{eq-eqb}
use Rattle.paper.specs.Scan.{pick_n}
use Rattle.paper.specs.Mesh.{Mesh, corner_count, most_corners}
use Rattle.paper.specs.Corners.{start_of}
use Rattle.paper.specs.Links.{vertex_of, names, lowest}
use Rattle.paper.specs.Net.{Side, side0, side1, side2, side3}
use Rattle.paper.specs.Borders.{beside}
use Rattle.paper.specs.Triangles.{groups, level, segments, vertex_owner, edge_owner, face_owner, group_size, point_groups, points_before, triangles_before, number_in}
use Rattle.mesh.proofs.Scans.{first_le}
use Rattle.mesh.proofs.Accepted.{sound_of, closed_of, few_corners}
use Rattle.mesh.proofs.Faces.{first_from_lem}
use Rattle.owners.specs.Corners.{Here, Place, Wide}
use Rattle.owners.proofs.Neighbours.{beside_below, edge_lower}
use Rattle.numbering.specs.Meshed.{Of, Given, PointsStarted, Starting, group_start}
use Rattle.closing.proofs.Spots.{own_curve0, own_curve1}
use Rattle.closing.proofs.Counts.{group_step, rings_all, points_few, triangles_more, most_inner}

-- ---- what the functions ask
pub levels_few : {corners low table levels : List ℕ} (M : Mesh) → Of M corners low table levels → length levels ≤ most_corners
levels_few M o = omega (arith, o.many, few_corners _ _ _ (sound_of M o.accepted).four)

module _ {corners low table levels : List ℕ} (M : Mesh) (o : Of M corners low table levels) (c : ℕ) (h : c < length levels) where
  pub below_of : c < corner_count M
  below_of = omega (arith, o.many)

  pub here_of : Here M table c
  here_of = record { accepted = o.accepted; tabled = o.tabled; below = below_of }

  pub corner_of_lem : c < length corners
  corner_of_lem = omega (arith, below_of, ap length o.corners_are)

module _ {corners low table levels : List ℕ} (g : Given corners low table levels) (c : ℕ) (h : c < length levels) where
  pub place_of_lem : Place table c
  place_of_lem = record { mesh = g.mesh; here = here_of g.mesh g.is c h }

  pub wide_of : Wide table levels c
  wide_of = record { mesh = g.mesh; here = here_of g.mesh g.is c h; many = g.is.many; leveled = g.is.leveled }

  pub given_corner : c < length corners
  given_corner = corner_of_lem g.mesh g.is c h

  pub level_some : 1 ≤ level levels c
  level_some = (g.is.leveled c (below_of g.mesh g.is c h)).0

  pub level_few : level levels c ≤ 16
  level_few = (g.is.leveled c (below_of g.mesh g.is c h)).1

  pub inner_few : level levels c * (level levels c - 1) ≤ 240
  inner_few = most_inner (level levels c) level_few

pub level_bounds : {corners low table levels : List ℕ} (g : Given corners low table levels) (c : ℕ) → c < length levels → (n : ℕ) → n ≡ level levels c
    → (n * (n - 1) ≤ 240) × (1 ≤ n) × (n ≤ 16)
level_bounds g c h n e = (rw e (inner_few g c h), omega (arith, level_some g c h), omega (arith, level_few g c h))

pub given_of : {corners low table levels starts : List ℕ} → Starting corners low table levels starts → Given corners low table levels
given_of s = record { mesh = s.mesh; is = s.is.of }

-- ---- where the groups start
module _ {corners low table levels : List ℕ} (M : Mesh) (o : Of M corners low table levels) (c : ℕ) (h : c < length levels) where
  hc : c < corner_count M
  hc = below_of M o c h

  step : (g : ℕ) → g < groups → group_start M levels c (g + 1) ≡ group_start M levels c g + group_size M levels c g
  step = group_step M levels o.accepted o.leveled c hc

  pub offset0 : group_start M levels c 0 ≡ points_before M levels c + 0
  unfolding points_before
  offset0 = ap (start_of (point_groups M levels)) (let z : groups * c + 0 ≡ groups * c = omega arith in z) ∙ omega arith

  module _ (a : ℕ) (p : a ≡ pick_n (eqb c (lowest corners (vertex_of corners c))) 1 0) where
    size0 : group_size M levels c 0 ≡ a
    unfolding group_size vertex_owner
    size0 = rw o.corners_are (sym p)

    pub offset1 : group_start M levels c 1 ≡ points_before M levels c + a
    offset1 = omega (arith, step 0 (omega arith), offset0, size0)

    module _ (b : ℕ) (q : b ≡ pick_n (eqb c (edge_owner M c)) 1 0) where
      size1 : group_size M levels c 1 ≡ b
      unfolding group_size
      size1 = sym q

      pub offset2 : group_start M levels c 2 ≡ points_before M levels c + (a + b)
      offset2 = omega (arith, step 1 (omega arith), offset1, size1)

      module _ (d : ℕ) (r : d ≡ pick_n (eqb c (face_owner M c)) 1 0) where
        size2 : group_size M levels c 2 ≡ d
        unfolding group_size
        size2 = sym r

        pub offset3 : group_start M levels c 3 ≡ points_before M levels c + (a + b + d)
        offset3 = omega (arith, step 2 (omega arith), offset2, size2)

        module _ (m : ℕ) (s : m ≡ segments M levels c side0) where
          pub offset4 : group_start M levels c 4 ≡ points_before M levels c + (a + b + d + (m - 1))
          offset4 = omega (arith, step 3 (omega arith), offset3, own_curve0 M levels o.accepted o.leveled c hc)

          module _ (n : ℕ) (t : n ≡ segments M levels c side1) where
            pub offset5 : group_start M levels c 5 ≡ points_before M levels c + (a + b + d + (m - 1) + (n - 1))
            offset5 = omega (arith, step 4 (omega arith), offset4, own_curve1 M levels o.accepted o.leveled c hc)

  -- and where the corner's points end
  pub points_rest : (a n : ℕ) → group_start M levels c 5 ≡ points_before M levels c + a → n ≡ level levels c
      → points_before M levels (c + 1) ≡ points_before M levels c + (a + 2 * (n * (n - 1)) + 1)
  unfolding points_before
  points_rest a n e f =
      rw f (let r = rings_all M levels o.accepted o.leveled c hc in
      let q = ap (start_of (point_groups M levels)) (let z : groups * (c + 1) ≡ groups * c + 21 = omega arith in z) in
      let z : start_of (point_groups M levels) (groups * (c + 1)) ≡ start_of (point_groups M levels) (groups * c) + (a + 2 * (level levels c * (level levels c - 1)) + 1) = omega arith in z)

-- ---- starts are few
module _ {corners low table levels starts : List ℕ} (M : Mesh) (s : PointsStarted M corners low table levels starts) (c : ℕ) (h : c < length levels) where
  pub start_few : get_or starts c 0 ≤ 4210688
  start_few =
      let b = below_of M s.of c h in
      omega (arith, s.starts_are c b, points_few M levels s.of.accepted s.of.leveled c (omega arith), levels_few M s.of)

  pub group_at : (g a r : ℕ) → group_start M levels c g ≡ points_before M levels c + a → r ≡ get_or starts c 0 + a → r ≡ group_start M levels c g
  group_at g a r e f = omega (arith, s.starts_are c (below_of M s.of c h))

-- ---- owners
pub number_start : (M : Mesh) (levels : List ℕ) (c g : ℕ) → group_start M levels c g ≡ number_in M levels c g 0
unfolding number_in
number_start M levels c g = omega arith

module _ {corners low table levels : List ℕ} (M : Mesh) (o : Of M corners low table levels) (c : ℕ) (h : c < length levels) where
  pub vertex_below : lowest corners (vertex_of corners c) < length levels
  unfolding lowest names
  vertex_below = omega (arith, first_le (length corners) (names corners (vertex_of corners c)) c (eq-eqb (vertex_of corners c) (vertex_of corners c) refl))

  pub vertex_is : lowest corners (vertex_of corners c) ≡ vertex_owner M c
  unfolding vertex_owner
  vertex_is = rw o.corners_are

  pub edge_below : edge_owner M c < length levels
  edge_below = omega (arith, edge_lower M c)

  pub face_below : face_owner M c < length levels
  unfolding face_owner
  face_below =
      let b = below_of M o c h in
      omega (arith, first_from_lem M.sides c (omega (arith, (closed_of M (sound_of M o.accepted)).sums)))

-- ---- the triangles of a corner
pub triangles_rest : {corners low table levels : List ℕ} (M : Mesh) (o : Of M corners low table levels) (c : ℕ) → c < length levels → (a b d e n : ℕ)
    → a ≡ segments M levels c side0 → b ≡ segments M levels c side1 → d ≡ segments M levels c side2 → e ≡ segments M levels c side3 → n ≡ level levels c
    → triangles_before M levels (c + 1) ≡ triangles_before M levels c + (a + b + d + e + 4 * (n * (n - 1)))
triangles_rest {levels = levels} M o c h a b d e n p q r s t =
    let m = triangles_more M levels o.leveled c (below_of M o c h) in
    rw t (let z : triangles_before M levels (c + 1) ≡ triangles_before M levels c + (a + b + d + e + 4 * (level levels c * (level levels c - 1))) = omega arith in z)

-- ---- the net beside a corner's
pub beside_in : {corners low table levels : List ℕ} (M : Mesh) → Of M corners low table levels → (c : ℕ) → c < length levels → (s : Side) (d : ℕ) → d ≡ beside M c s
    → d < length levels
beside_in M o c h s d e = omega (arith, e, beside_below M o.accepted c (below_of M o c h) s, o.many)
