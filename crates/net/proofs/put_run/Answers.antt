-- `net::put_run` meets its contract. The invariant: the numbers of the first r corners are put, and the rows of the face are as they were taken.
use mathlib.Core.Path.{◌≡◌, ◌∙◌}
use Prim.Native.Nat.{◌+◌, ◌<◌}
use native.Mathlib.Omega.{arith}
use borrow.Author.Rules.{rules}
use Rattle.paper.specs.Scan.{iterate}
use Rattle.paper.specs.Mesh.{most_sides}
use Rattle.walk.specs.Table.{to_next, entry}
use Rattle.net.specs.Drawn.{Drawn}
use Rattle.net.proofs.CornerRuns.{face_held, face_kept, run_place, lane_has, ready, run_none, run_more}
use Rattle.net.proofs.put_run.Goals as goal
use Rattle.net.proofs.put_run.Goals.{In-loop-r, Start}

pub take_face-requires : goal.take_face-requires
take_face-requires c =
    let m = c.requires.mesh in
    record { mesh = (m.0, omega (arith, m.1, c.requires.room.0), c.requires.rows); room = (c.requires.lent.0, m.2.short) }

pub loop-r-init : goal.loop-r-init
loop-r-init c =
    let p = c.requires.lent in
    let t = c.take_face.ensures in (
      record { long = t.same ∙ p.0; wide = p.1; quiet = λ i. rw (t.fourth i) (p.2 i); face = face_held _ _ _ _ _ t },
      run_none _ _ _ _,
    )

-- corner r of the run, once its rows are taken
module _ (l : In-loop-r) where
  abbrev start : Start
  start = search

  mesh : Drawn start.args.count start.args.table.now start.args.points.now
  mesh = start.requires.mesh.0

  few : l.loop-r.r < most_sides
  few = omega (arith, l.loop-r-test.true, start.requires.mesh.2.short)

  first_in : start.args.c < start.args.count
  first_in = omega (arith, start.requires.mesh.1, l.loop-r-test.true)

  place : iterate l.loop-r.r (entry start.args.table.now to_next) start.args.c ≡ start.args.c + l.loop-r.r
  place = run_place _ _ _ mesh _ _ start.requires.mesh.2 _ l.loop-r-test.true

  here : start.args.c + l.loop-r.r < start.args.count
  here = omega (arith, start.requires.mesh.1, l.loop-r-test.true)

pub rings_at-requires : goal.rings_at-requires
rings_at-requires c =
    let l = (goal.at.rings_at-requires c).In-loop-r in
    (record { sound = (mesh l).sound; table_long = (mesh l).table_long; here = here l }, (start l).requires.rows)

pub fill_lanes-requires : goal.fill_lanes-requires
fill_lanes-requires c =
    let l = (goal.at.fill_lanes-requires c).In-loop-r in
    let i = l.loop-r.invariant in
    let t = c.take_corner.ensures in (
      ready _ _ _ (mesh l) _ _ _ _ (first_in l) (here l) (place l) (omega (arith, l.loop-r-test.true)) _ c.rings_at.ensures _ _ i.0.face t
          (t.same ∙ i.0.long) (few l) (t.quiet i.0.quiet),
      i.0.wide,
    )

pub overflow_add-at : goal.overflow_add-at
overflow_add-at c =
    let l = (goal.at.overflow_add-at c).In-loop-r in
    let s = start l in
    record { fits = omega (arith, s.requires.room.1, l.loop-r-test.true) }

pub copy-requires : goal.copy-requires
copy-requires c =
    let l = (goal.at.copy-requires c).In-loop-r in
    let i = l.loop-r.invariant in
    (omega (arith, i.0.wide), omega (arith, (start l).requires.room.1, i.1.same, l.loop-r-test.true))

pub loop-r-preserved : goal.loop-r-preserved
loop-r-preserved c =
    let l = (goal.at.loop-r-preserved c).In-loop-r in
    let i = l.loop-r.invariant in
    let t = c.take_corner.ensures in (
      record {
        long = t.same ∙ i.0.long;
        wide = omega (arith, i.0.wide);
        quiet = t.quiet i.0.quiet;
        face = face_kept _ _ _ _ _ t.after i.0.face;
      },
      run_more _ _ _ _ _ c.rings_at.result _ _ _ _ i.1
          (lane_has _ _ _ (mesh l) _ _ _ _ (first_in l) (here l) (place l) (omega (arith, l.loop-r-test.true)) _ c.rings_at.ensures _ _ i.0.face t)
          c.fill_lanes.ensures c.copy.ensures,
    )

pub returns : goal.returns
returns c =
    let l = c.loop-r in
    let e : l.r ≡ c.args.run = omega arith in
    record { put = rw e at l.invariant.1; quiet = l.invariant.0.quiet }

pub take_corner-requires : goal.take_corner-requires
take_corner-requires c = let l = (goal.at.take_corner-requires c).In-loop-r in record { mesh = (mesh l, here l, (start l).requires.rows); room = l.loop-r.invariant.0.long }

pub overflow_mul-r : goal.overflow_mul-r
overflow_mul-r c = let l = (goal.at.overflow_mul-r c).In-loop-r in search (rules, few l)
