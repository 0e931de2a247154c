-- `net_rows::points::put_lane` meets its contract: the rows and grids are those of whichever net has these sides, and the two grids are placed one after the other.
use mathlib.Core.Path.{◌∙◌, subst}
use mathlib.Core.List.{List}
use Prim.Native.Nat.{◌+◌}
use native.Mathlib.Omega.{arith}
use lib.IntN.{ℤ}
use Rattle.paper.specs.Net.{rows}
use Rattle.net_rows.specs.points.Placed.{PointsPlaced}
use Rattle.net_rows.proofs.points.Laws.{a_is, b_is, lane_laid, other_lanes}
use Rattle.net_rows.proofs.points.put_lane.Goals as goal

pub b_grid-b-requires : goal.b_grid-b-requires
b_grid-b-requires c = (
  record { rows0 = c.side_rows-r0.ensures.sized; rows1 = c.side_rows-r1.ensures.sized; rows2 = c.side_rows-r2.ensures.sized; rows3 = c.side_rows-r3.ensures.sized },
  c.a_grid-a.ensures.sized.0,
  c.a_grid-a.ensures.sized.1,
)

pub overflow_add-k : goal.overflow_add-k
overflow_add-k c =
    record { fits = omega (arith, c.requires.1) }

pub returns : goal.returns
returns c =
    let mid = c.put_grid.new.out in
    let new = c.put_grid-2.new.out in
    record {
      same = c.put_grid-2.ensures.same ∙ c.put_grid.ensures.same;
      laid = λ K d f.
          lane_laid K d c.args.k c.args.lanes.now mid new
          (subst (λ (z : List (List ℤ)). PointsPlaced c.args.lanes.now mid c.args.k (rows z))
          (b_is K d c.args.n f c.requires.0 _ _ _ _ c.side_rows-r0.ensures c.side_rows-r1.ensures c.side_rows-r2.ensures c.side_rows-r3.ensures _ _
          c.a_grid-a.ensures c.b_grid-b.ensures) c.put_grid.ensures)
          (subst (λ (z : List (List ℤ)). PointsPlaced mid new (c.args.k + 100) (rows z))
          (a_is K d c.args.n f c.requires.0 _ _ _ _ c.side_rows-r0.ensures c.side_rows-r1.ensures c.side_rows-r2.ensures c.side_rows-r3.ensures _
          c.a_grid-a.ensures) c.put_grid-2.ensures);
      others = other_lanes c.args.k c.args.lanes.now mid new _ _ c.requires.1 c.put_grid.ensures c.put_grid-2.ensures;
    }
