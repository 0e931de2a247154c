-- Laws of the functions over the table of corners: where steps lead, the owners of a corner's ends, the larger level, the lowest corners.
use mathlib.Core.Path.{◌≡◌, sym, ap, ◌∙◌}
use mathlib.Core.List.{List}
use Prim.Native.Nat.{ℕ, ◌+◌, ◌*◌, ◌≤◌, ◌<◌, min, max}
use native.Mathlib.Omega.{arith}
use lib.ListN.{length, get_or}
use borrow.Author.Tests.{eq-eqb, ne_eqb}
use Rattle.paper.specs.Mesh.{Mesh, corner_count}
use Rattle.paper.specs.Corners.{sum_of, first_of, next, previous}
use Rattle.paper.specs.Links.{vertex_of, link, reverse, names, lowest}
use Rattle.paper.specs.Refined.{corners_of}
use Rattle.paper.specs.Net.{Side}
use Rattle.paper.specs.Borders.{beside}
use Rattle.paper.specs.Triangles.{level, segments, edge_owner, face_owner}
use Rattle.walk.specs.Table.{row_length, to_next, to_previous, to_link, Column, Led}
use Rattle.mesh.specs.Tables.{Named}
use Rattle.mesh.proofs.Scans.{first_at}
use Rattle.mesh.proofs.Accepted.{sound_of, closed_of}
use Rattle.mesh.proofs.Theorems.{manifold}
use Rattle.owners.specs.Corners.{Here, Lowests}
use Rattle.strips.proofs.Cases.{pick_less}
use Rattle.owners.proofs.Neighbours.{reverse_is, edge_lower}

-- ---- steps
module _ (M : Mesh) (table : List ℕ) (c : ℕ) (h : Here M table c) where
  pub row_in : (k : ℕ) → k < row_length → row_length * c + k < length table
  row_in k l = omega (arith, h.tabled.long, h.below)

  pub here_at : (d : ℕ) → d < corner_count M → Here M table d
  here_at d l = record { accepted = h.accepted; tabled = h.tabled; below = l }

  module _ (d : ℕ) where
    pub to_next_lem : Led table to_next (λ K. K.next) c d → d ≡ next M.sides c
    to_next_lem l = l.leads (corners_of M) h.tabled h.below

    pub to_previous_lem : Led table to_previous (λ K. K.previous) c d → d ≡ previous M.sides c
    to_previous_lem l = l.leads (corners_of M) h.tabled h.below

    pub to_link_lem : Led table to_link (λ K. K.link) c d → d ≡ link M.sides M.corners c
    to_link_lem l = l.leads (corners_of M) h.tabled h.below

    pub here_previous : Led table to_previous (λ K. K.previous) c d → Here M table d
    here_previous l = here_at d (rw (to_previous_lem l) (manifold M h.accepted c h.below).previous_below)

    pub here_link : Led table to_link (λ K. K.link) c d → Here M table d
    here_link l = here_at d (rw (to_link_lem l) (manifold M h.accepted c h.below).link_below)

-- back, over the link and back again
pub to_across : (M : Mesh) (table : List ℕ) (c d e f : ℕ) → Here M table c → Led table to_previous (λ K. K.previous) c d
    → Led table to_link (λ K. K.link) d e → Led table to_previous (λ K. K.previous) e f
    → f ≡ previous M.sides (link M.sides M.corners (previous M.sides c))
to_across M table c d e f h a b l =
    let hd = here_previous M table c h d a in
    to_previous_lem M table e (here_link M table d hd e b) f l
    ∙ ap (previous M.sides) (to_link_lem M table d hd e b ∙ ap (link M.sides M.corners) (to_previous_lem M table c h d a))

-- ---- the edge
module _ (M : Mesh) (table : List ℕ) (c d e : ℕ) (h : Here M table c) (a : Led table to_link (λ K. K.link) c d)
    (b : Led table to_previous (λ K. K.previous) d e) where
  pub to_reverse : e ≡ reverse M.sides M.corners c
  to_reverse =
      to_previous_lem M table d (here_link M table c h d a) e b ∙ ap (previous M.sides) (to_link_lem M table c h d a) ∙ reverse_is M h.accepted c h.below

  pub edge_min : min c e ≡ edge_owner M c
  edge_min = ap (min c) to_reverse ∙ sym (edge_lower M c)

-- ---- the face
pub face_first : (M : Mesh) (table : List ℕ) (c d : ℕ) → Here M table c
    → ((sides : List ℕ) → Column table to_previous (previous sides) (sum_of sides) → c < sum_of sides → d ≡ first_of sides c) → d ≡ face_owner M c
unfolding face_owner
face_first M table c d h e =
    let sums = (closed_of M (sound_of M h.accepted)).sums in
    e M.sides (λ x l. h.tabled.previouses x (omega (arith, sums))) (omega (arith, sums, h.below))

-- ---- the larger level
module _ (M : Mesh) (levels : List ℕ) (c : ℕ) (s : Side) (d n m : ℕ) (e : d ≡ beside M c s) (p : n ≡ level levels c) (q : m ≡ level levels d) where
  there : m ≡ level levels (beside M c s)
  there = q ∙ ap (level levels) e

  pub segments_max : max n m ≡ segments M levels c s
  unfolding segments
  segments_max = rw (← p, ← there) (pick_less n m m n (λ l e. omega (arith, e)) (λ l e. omega (arith, e)))

-- ---- the lowest corner of each vertex, from the last corner down to c
pub record Low (corners low : List ℕ) (c e : ℕ) : Type 0 where
  pub from : c ≤ get_or low (vertex_of corners e) 0
  pub to : get_or low (vertex_of corners e) 0 ≤ e
  pub same : vertex_of corners (get_or low (vertex_of corners e) 0) ≡ vertex_of corners e

pub lows_of : (corners low : List ℕ) → Named corners (length low) → ((e : ℕ) → 0 ≤ e → e < length corners → Low corners low 0 e) → Lowests corners low
unfolding lowest names
lows_of corners low named all = record {
  named = named;
  lowests = λ c h.
      let o = all c (omega arith) h in
      sym (first_at (length corners) (names corners (vertex_of corners c)) (get_or low (vertex_of corners c) 0) (omega (arith, o.to)) (eq-eqb _ _ o.same)
      (λ j l. ne_eqb _ _ (λ q. let p = all j (omega arith) (omega (arith, o.to)) in
      let z : get_or low (vertex_of corners j) 0 ≡ get_or low (vertex_of corners c) 0 = ap (λ (x : ℕ). get_or low x 0) q in
      omega (arith, p.to))));
}
