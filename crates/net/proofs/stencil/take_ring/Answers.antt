-- `net::stencil::take_ring` meets its contract. The invariant: r rows have the points towards the sides from the corner before c on, and the walker stands
-- at the r-th corner.
use mathlib.Core.Path.{◌≡◌, sym, ap, ◌∙◌}
use Prim.Native.Nat.{ℕ, ◌+◌, ◌*◌, ◌≤◌, ◌<◌}
use native.Mathlib.Omega.{arith}
use borrow.Author.Rules.{rules}
use lib.Dec.{lit<}
use lib.IntN.{pos}
use mir.Facts.{to_z-of_z}
use Rattle.paper.specs.Scan.{iterate}
use Rattle.paper.specs.Mesh.{most_sides}
use Rattle.paper.specs.Net.{side1, X}
use Rattle.numbers.specs.Units.{Reciprocal}
use Rattle.walk.specs.Table.{sides_here, entry}
use Rattle.net.specs.Drawn.{drawn, Drawn}
use Rattle.net.proofs.stencil.Taken.{row_at, face_none, face_more, face_end}
use Rattle.net.proofs.stencil.Rings.{step_more, Divisor, divisor, row_in, face_ring, face_h, face_x, walked_in, sides_along}
use Rattle.net.proofs.stencil.take_ring.Goals as goal
use Rattle.net.proofs.stencil.take_ring.Goals.{After-reciprocal-f, After-ring_centre-centre, After-ring_toward-p, After-take_row, After-take_row-in-loop-r, In-loop-r, Start}

-- the mesh, and the divisor
module _ (s : Start) where
  drawn_is : Drawn s.args.count s.args.table.now s.args.points.now
  drawn_is = s.requires.mesh.0

  by : Divisor s.args.n
  by =
      let t = drawn_is.sound in
      rw (← s.requires.mesh.2) (divisor _ (t.sides_least _ s.requires.mesh.1) (t.sides_most _ s.requires.mesh.1))

reciprocal_is : (c : After-reciprocal-f) → Reciprocal (pos (3 * c.args.n)) c.reciprocal-f.result
reciprocal_is c = let d = by (search) in rw (d.count_is, to_z-of_z d.fits) at c.reciprocal-f.ensures

pub ring_centre-centre-requires : goal.ring_centre-centre-requires
ring_centre-centre-requires c =
    record { ring = face_ring _ _ _ (drawn_is (goal.at.ring_centre-centre-requires c).Start) _ _ c.requires.mesh.1 (sym c.requires.mesh.2); reciprocal = reciprocal_is (goal.at.ring_centre-centre-requires c).After-reciprocal-f }

pub loop-r-init : goal.loop-r-init
unfolding iterate
loop-r-init c =
    let s = (goal.at.loop-r-init c).Start in (
      face_none _ _ _
          (row_at c.ring_centre-centre.result 10 _ _ c.take_row.ensures _ _ (λ a l z o. face_h _ _ _ (drawn_is s) _ _ a z (sym s.requires.mesh.2) o)
          c.ring_centre-centre.ensures),
      c.previous-at.ensures.read,
    )

-- the ring at the walker's corner
module _ (l : In-loop-r) where
  abbrev start : Start
  start = search

  -- r is at most the count of sides
  few : l.loop-r.r ≤ most_sides
  few = omega (arith, l.loop-r-test.true, start.requires.room.1)

  here : l.loop-r.at.corner < start.args.count
  here = walked_in _ _ _ (drawn_is start) _ start.requires.mesh.1 _ _ l.loop-r.invariant.1

  sides_at : start.args.n ≡ entry start.args.table.now sides_here l.loop-r.at.corner
  sides_at = sym (ap (entry start.args.table.now sides_here) l.loop-r.invariant.1 ∙ sides_along _ _ _ (drawn_is start) _ start.requires.mesh.1 l.loop-r.r ∙ start.requires.mesh.2)

pub ring_toward-p-requires : goal.ring_toward-p-requires
ring_toward-p-requires c =
    let q = (goal.at.ring_toward-p-requires c).After-reciprocal-f in
    let s = start (goal.at.ring_toward-p-requires c).In-loop-r in
    let l = (goal.at.ring_toward-p-requires c).In-loop-r in
    record { ring = face_ring _ _ _ (drawn_is s) _ _ (here l) (sides_at l); rows = s.requires.mesh.3; reciprocal = reciprocal_is q }

pub take_row-requires-in-loop-r : goal.take_row-requires-in-loop-r
take_row-requires-in-loop-r c =
    let l = (goal.at.take_row-requires-in-loop-r c).In-loop-r in
    let s = start l in
    omega (arith, few l, l.loop-r.invariant.0.same, c.take_row.ensures.same, s.requires.room.0)

pub loop-r-preserved : goal.loop-r-preserved
loop-r-preserved c =
    let l = (goal.at.loop-r-preserved c).In-loop-r in
    let s = start l in
    let i = l.loop-r.invariant in (
      face_more _ _ _ _ _ _ c.ring_toward-p.result i.0 c.take_row-in-loop-r.ensures
          (row_at c.ring_toward-p.result _ _ _ c.take_row-in-loop-r.ensures _ _
          (λ a k z o. face_x _ _ _ (drawn_is s) _ _ a z (sides_at l) o
          ∙ ap (λ (d : ℕ). X (drawn s.args.count s.args.table.now s.args.points.now a) d side1) i.1) c.ring_toward-p.ensures),
      c.next-at.ensures.read ∙ step_more _ _ _ _ i.1,
    )

pub returns : goal.returns
returns c =
    let l = c.loop-r in
    let e : l.r ≡ c.args.run + 1 = omega arith in
    face_end _ _ _ _ _ _ c.ring_centre-centre.result c.take_row.ensures
    (rw e at l.invariant.0)

pub overflow_cast-n : goal.overflow_cast-n
overflow_cast-n c = let d = by (goal.at.overflow_cast-n c).Start in search rules

pub overflow_mul-n : goal.overflow_mul-n
overflow_mul-n c = let d = by (goal.at.overflow_mul-n c).Start in rw d.count_is d.fits

pub reciprocal-f-requires : goal.reciprocal-f-requires
reciprocal-f-requires c = let d = by (goal.at.reciprocal-f-requires c).Start in rw (d.count_is, to_z-of_z d.fits) (d.from, d.to)

pub take_row-requires : goal.take_row-requires
take_row-requires c = omega (arith, c.requires.room.0)

pub previous-at-requires : goal.previous-at-requires
previous-at-requires c = let s = (goal.at.previous-at-requires c).Start in row_in _ _ _ (drawn_is s) _ _ (lit< tt) s.requires.mesh.1

pub overflow_add-r : goal.overflow_add-r
overflow_add-r c = let l = (goal.at.overflow_add-r c).In-loop-r in search (rules, few l)

pub next-at-requires : goal.next-at-requires
next-at-requires c = let l = (goal.at.next-at-requires c).In-loop-r in row_in _ _ _ (drawn_is (start l)) _ _ (lit< tt) (here l)
