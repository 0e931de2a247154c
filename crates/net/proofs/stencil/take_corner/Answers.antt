-- `net::stencil::take_corner` meets its contract. The invariant: the first i rows are those of the corners around.
use mathlib.Core.Path.{◌≡◌, refl, sym, ◌∙◌, subst}
use mathlib.Core.List.{List}
use Prim.Native.Nat.{ℕ, ◌<◌}
use native.Mathlib.Omega.{arith}
use lib.ListN.{get_or}
use Rattle.net.proofs.stencil.Taken.{rows_none, rows_more, corner_taken}
use Rattle.net.proofs.stencil.Rings.{around_in}
use Rattle.net.proofs.stencil.take_corner.Goals as goal
use Rattle.net.proofs.stencil.take_corner.Goals.{In-loop-i, Start}

pub take_vertex-requires : goal.take_vertex-requires
take_vertex-requires c =
    let d = c.requires.mesh.0.sound in
    let h = c.requires.mesh.1 in
    let p = d.previous_in _ h in
    rw c.corners_around-corners.ensures (record {
      mesh = c.requires.mesh;
      ring = (d.previous_in _ (d.link_in _ p), d.link_previous_link _ p ∙ d.next_previous _ h, refl);
      room = c.requires.room;
    })

-- the corner of row i
module _ (l : In-loop-i) where
  abbrev start : Start
  start = search

  corner_in : get_or l.corners_around-corners.result l.loop-i.i 0 < start.args.count
  corner_in =
      subst (λ (d : List ℕ). get_or d l.loop-i.i 0 < start.args.count) (sym l.corners_around-corners.ensures)
      (around_in _ _ _ start.requires.mesh.0 _ start.requires.mesh.1 _ l.loop-i-test.true)

pub take_whole-requires : goal.take_whole-requires
take_whole-requires c =
    let l = (goal.at.take_whole-requires c).In-loop-i in
    let s = start l in (
      omega (arith, corner_in l, s.requires.mesh.0.points_long),
      omega (arith, l.loop-i-test.true, l.loop-i.invariant.same, c.take_vertex.ensures.same, s.requires.room),
    )

pub loop-i-preserved : goal.loop-i-preserved
loop-i-preserved c =
    rows_more _ _ _ _ _ _ c.loop-i.invariant c.take_whole.ensures

pub returns : goal.returns
returns c =
    let l = c.loop-i in
    let e : l.i ≡ 7 = omega arith in
    corner_taken _ _ _ c.requires.mesh.0 _ c.requires.mesh.1 _ _ _ c.take_vertex.ensures
    (rw (c.corners_around-corners.ensures, e) at l.invariant)

pub corners_around-corners-requires : goal.corners_around-corners-requires
corners_around-corners-requires c = let p = c.requires.mesh in record { sound = p.0.sound; table_long = p.0.table_long; here = p.1 }

pub loop-i-init : goal.loop-i-init
loop-i-init c = rows_none _ _ _
