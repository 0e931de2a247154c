-- `net::stencil::take_quad` meets its contract. The invariant: r rows have the points towards the sides from the corner before c on, and the four walkers
-- stand at the corners of the face in turn, the first of them at the r-th.
use mathlib.Core.Path.{◌≡◌, refl}
use Prim.Native.Nat.{◌+◌, ◌≤◌}
use native.Mathlib.Omega.{arith}
use borrow.Author.Rules.{rules}
use lib.Dec.{lit<}
use Rattle.paper.specs.Mesh.{most_sides}
use Rattle.net.proofs.stencil.Taken.{row_at, face_none, face_more, face_end}
use Rattle.net.proofs.stencil.Rings.{row_in, readable, Quad, quad_more, quad_start, quad_in, quad_x, quad_h}
use Rattle.net.proofs.stencil.take_quad.Goals as goal
use Rattle.net.proofs.stencil.take_quad.Goals.{After-four_centre-centre, After-four_toward-p, After-next-far, After-take_row, In-loop-r, Start}

-- the four corners that are walked to
four : (c : After-next-far)
    → let s : Start = search in
    Quad s.args.table.now s.args.c 0 c.previous-before.result.corner s.args.c c.next-next.result.corner c.next-far.result.corner
four c =
    let s : Start = search in
    quad_start s.args.count s.args.table.now s.args.points.now s.requires.mesh.0 s.args.c s.requires.mesh.1 _ _ _ _ s.requires.mesh.2
    c.previous-before.ensures.read refl c.next-next.ensures.read c.next-far.ensures.read

pub next-far-requires : goal.next-far-requires
next-far-requires c =
    rw c.next-next.ensures.read (row_in _ _ _ c.requires.mesh.0 _ _ (lit< tt) (c.requires.mesh.0.sound.next_in _ c.requires.mesh.1))

pub four_centre-centre-requires : goal.four_centre-centre-requires
four_centre-centre-requires c =
    let d = c.requires.mesh.0 in
    let q = quad_in _ _ _ d _ c.requires.mesh.1 c.requires.mesh.2 _ _ _ _ _ (four (goal.at.four_centre-centre-requires c).After-next-far) in
    let at = readable _ _ _ d in
    (at _ c.requires.mesh.1, at _ q.2, at _ q.3, at _ q.0)

pub loop-r-init : goal.loop-r-init
loop-r-init c =
    let n = (goal.at.loop-r-init c).After-next-far in (
      face_none _ _ _
          (row_at c.four_centre-centre.result 10 _ _ c.take_row.ensures _ _
          (λ a l z o. quad_h _ _ _ c.requires.mesh.0 _ c.requires.mesh.1 _ _ _ a z c.requires.mesh.2 (four n) o) c.four_centre-centre.ensures),
      four n,
    )

pub four_toward-p-requires : goal.four_toward-p-requires
four_toward-p-requires c =
    let d = c.requires.mesh.0 in
    let q = quad_in _ _ _ d _ c.requires.mesh.1 c.requires.mesh.2 _ _ _ _ _ c.loop-r.invariant.1 in
    let at = readable _ _ _ d in
    (at _ q.0, at _ q.1, at _ q.2, at _ q.3)

-- r is at most the count of sides
few : (l : In-loop-r) → l.loop-r.r ≤ most_sides
few l = let s : Start = search in omega (arith, l.loop-r-test.true, s.requires.room.1)

pub take_row-requires-in-loop-r : goal.take_row-requires-in-loop-r
take_row-requires-in-loop-r c =
    let l = (goal.at.take_row-requires-in-loop-r c).In-loop-r in
    omega (arith, few l, l.loop-r.invariant.0.same, c.take_row.ensures.same, c.requires.room.0)

pub loop-r-preserved : goal.loop-r-preserved
loop-r-preserved c =
    let i = c.loop-r.invariant in (
      face_more _ _ _ _ _ _ c.four_toward-p.result i.0 c.take_row-in-loop-r.ensures
          (row_at c.four_toward-p.result _ _ _ c.take_row-in-loop-r.ensures _ _
          (λ a k z o. quad_x _ _ _ c.requires.mesh.0 _ c.requires.mesh.1 c.requires.mesh.2 _ _ _ _ _ i.1 a z o) c.four_toward-p.ensures),
      quad_more _ _ _ _ _ _ _ i.1,
    )

pub returns : goal.returns
returns c =
    let l = c.loop-r in
    let e : l.r ≡ c.args.run + 1 = omega arith in
    face_end _ _ _ _ _ _ c.four_centre-centre.result c.take_row.ensures
    (rw e at l.invariant.0)

pub previous-before-requires : goal.previous-before-requires
previous-before-requires c = let p = c.requires.mesh in row_in _ _ _ p.0 _ _ (lit< tt) p.1

pub next-next-requires : goal.next-next-requires
next-next-requires c = let p = c.requires.mesh in row_in _ _ _ p.0 _ _ (lit< tt) p.1

pub take_row-requires : goal.take_row-requires
take_row-requires c = omega (arith, c.requires.room.0)

pub overflow_add-r : goal.overflow_add-r
overflow_add-r c = let l = (goal.at.overflow_add-r c).In-loop-r in search (rules, few l)
