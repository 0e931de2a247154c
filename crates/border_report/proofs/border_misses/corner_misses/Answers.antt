-- `border_report::border_misses::corner_misses` meets its contract: the rows have the corner's sides on the three axes, and the answer is the larger of
-- the misses there.
use mathlib.Core.Path.{◌∙◌}
use Prim.Native.Nat.{ℕ, ◌+◌}
use native.Mathlib.Omega.{arith}
use lib.Dec.{lit<}
use Rattle.paper.specs.Numbers.{rounded}
use Rattle.paper.specs.Refined.{RefinedMesh}
use Rattle.net.specs.Drawn.{drawn}
use Rattle.net.proofs.CornerRuns.{run_place, lane_has, ready_axis}
use Rattle.border_report.proofs.border_misses.Laws.{larger_at, corner_is}
use Rattle.border_report.proofs.border_misses.corner_misses.Goals as goal

pub lane_sides-a-requires : goal.lane_sides-a-requires
lane_sides-a-requires c =
    ready_axis _ _ _ c.requires.mesh.0 _ _ _ (c.args.start + c.args.j) (omega arith) c.requires.mesh.1 (run_place _ _ _ c.requires.mesh.0 _ _ c.requires.ring.0 _ (omega arith)) (omega arith) c.rings_at-rings.result c.rings_at-rings.ensures _ _ c.requires.ring.2
    c.take_corner.ensures (c.take_corner.ensures.same ∙ c.requires.ring.1) (omega (arith, c.requires.ring.0.short)) 0 (lit< tt)

pub axis_misses-x-requires : goal.axis_misses-x-requires
axis_misses-x-requires c =
    let r = c.lane_sides-a.ensures.sized in
    record {
      sides = (r.side0, r.side1);
      numbers = (lit< tt, (c.requires.here 0 (lit< tt)).small, (c.requires.linked 0 (lit< tt)).small, (c.requires.next 0 (lit< tt)).small);
    }

pub lane_sides-b-requires : goal.lane_sides-b-requires
lane_sides-b-requires c =
    ready_axis _ _ _ c.requires.mesh.0 _ _ _ (c.args.start + c.args.j) (omega arith) c.requires.mesh.1 (run_place _ _ _ c.requires.mesh.0 _ _ c.requires.ring.0 _ (omega arith)) (omega arith) c.rings_at-rings.result c.rings_at-rings.ensures _ _ c.requires.ring.2
    c.take_corner.ensures (c.take_corner.ensures.same ∙ c.requires.ring.1) (omega (arith, c.requires.ring.0.short)) 1 (lit< tt)

pub axis_misses-y-requires : goal.axis_misses-y-requires
axis_misses-y-requires c =
    let r = c.lane_sides-b.ensures.sized in
    record {
      sides = (r.side0, r.side1);
      numbers = (lit< tt, (c.requires.here 1 (lit< tt)).small, (c.requires.linked 1 (lit< tt)).small, (c.requires.next 1 (lit< tt)).small);
    }

pub lane_sides-d-requires : goal.lane_sides-d-requires
lane_sides-d-requires c =
    ready_axis _ _ _ c.requires.mesh.0 _ _ _ (c.args.start + c.args.j) (omega arith) c.requires.mesh.1 (run_place _ _ _ c.requires.mesh.0 _ _ c.requires.ring.0 _ (omega arith)) (omega arith) c.rings_at-rings.result c.rings_at-rings.ensures _ _ c.requires.ring.2
    c.take_corner.ensures (c.take_corner.ensures.same ∙ c.requires.ring.1) (omega (arith, c.requires.ring.0.short)) 2 (lit< tt)

pub axis_misses-z-requires : goal.axis_misses-z-requires
axis_misses-z-requires c =
    let r = c.lane_sides-d.ensures.sized in
    record {
      sides = (r.side0, r.side1);
      numbers = (lit< tt, (c.requires.here 2 (lit< tt)).small, (c.requires.linked 2 (lit< tt)).small, (c.requires.next 2 (lit< tt)).small);
    }

pub returns : goal.returns
returns c =
    let K : ℕ → RefinedMesh rounded = drawn c.args.n c.args.table.now c.args.points.now in
    let e = c.args.start + c.args.j in
    record {
      misses = λ i few. corner_is K i e _ _ _ _ _ (larger_at _ _ c.larger_of-2.ensures i few) (larger_at _ _ c.larger_of.ensures i few)
          (c.axis_misses-x.ensures (K 0) e (c.lane_sides-a.ensures.four (K 0) e (lane_has _ _ _ c.requires.mesh.0 _ _ _ (c.args.start + c.args.j) (omega arith) c.requires.mesh.1 (run_place _ _ _ c.requires.mesh.0 _ _ c.requires.ring.0 _ (omega arith)) (omega arith) c.rings_at-rings.result c.rings_at-rings.ensures _ _ c.requires.ring.2 c.take_corner.ensures 0 (lit< tt))) (c.requires.here 0 (lit< tt)) (c.requires.linked 0 (lit< tt)) (c.requires.next 0 (lit< tt)) i few)
          (c.axis_misses-y.ensures (K 1) e (c.lane_sides-b.ensures.four (K 1) e (lane_has _ _ _ c.requires.mesh.0 _ _ _ (c.args.start + c.args.j) (omega arith) c.requires.mesh.1 (run_place _ _ _ c.requires.mesh.0 _ _ c.requires.ring.0 _ (omega arith)) (omega arith) c.rings_at-rings.result c.rings_at-rings.ensures _ _ c.requires.ring.2 c.take_corner.ensures 1 (lit< tt))) (c.requires.here 1 (lit< tt)) (c.requires.linked 1 (lit< tt)) (c.requires.next 1 (lit< tt)) i few)
          (c.axis_misses-z.ensures (K 2) e (c.lane_sides-d.ensures.four (K 2) e (lane_has _ _ _ c.requires.mesh.0 _ _ _ (c.args.start + c.args.j) (omega arith) c.requires.mesh.1 (run_place _ _ _ c.requires.mesh.0 _ _ c.requires.ring.0 _ (omega arith)) (omega arith) c.rings_at-rings.result c.rings_at-rings.ensures _ _ c.requires.ring.2 c.take_corner.ensures 2 (lit< tt))) (c.requires.here 2 (lit< tt)) (c.requires.linked 2 (lit< tt)) (c.requires.next 2 (lit< tt)) i few);
      ring = c.take_corner.ensures.after;
    }
