-- `put_over` meets its contract: after t turns the triangles over the first t segments stand there.
use mathlib.Core.Path.{refl, ap, ◌∙◌}
use Prim.Native.Nat.{◌+◌, ◌*◌}
use native.Mathlib.Omega.{arith}
use Rattle.paper.specs.Sampling.{side_at}
use Rattle.strips.specs.PointRows.{row_number, strip_number, three}
use Rattle.strips.proofs.Rowed.{fills_more, fills_as, over_three}
use Rattle.strips.proofs.put_over.Goals as goal

pub loop-t-preserved : goal.loop-t-preserved
loop-t-preserved c =
    let g = strip_number (side_at c.args.side) c.args.lower c.args.upper in
    fills_as g c.args.at (3 * c.loop-t.t + 3) (3 * (c.loop-t.t + 1)) _ _ (omega arith)
    (fills_more g (three c.number-a.result c.number-b.result c.number-c.result) c.args.at (3 * c.loop-t.t) (c.args.at + 3 * c.loop-t.t)
    3 _ _ _ refl c.loop-t.invariant c.put_three.ensures
    (over_three (side_at c.args.side) c.args.lower c.args.upper c.loop-t.t _ _ _ (omega arith) c.number-a.ensures
    c.number-b.ensures (c.number-c.ensures ∙ ap (row_number c.args.upper) c.over.ensures.0)))
