-- `put_under` meets its contract: after i turns the triangles under the first i segments stand there.
use mathlib.Core.Path.{refl, ap, ◌∙◌}
use Prim.Native.Nat.{ℕ, ◌+◌, ◌*◌}
use native.Mathlib.Omega.{arith}
use Rattle.paper.specs.Sampling.{side_at}
use Rattle.strips.specs.PointRows.{row_number, strip_number, three}
use Rattle.strips.proofs.Rowed.{fills_more, fills_as, under_three}
use Rattle.strips.proofs.put_under.Goals as goal

pub loop-i-preserved : goal.loop-i-preserved
loop-i-preserved c =
    let g : ℕ → ℕ = λ x. strip_number (side_at c.args.side) c.args.lower c.args.upper (3 * c.args.lower.parts + x) in
    fills_as g c.args.at (3 * c.loop-i.i + 3) (3 * (c.loop-i.i + 1)) _ _ (omega arith)
    (fills_more g (three c.number-a.result c.number-b.result c.number-c.result) c.args.at (3 * c.loop-i.i) (c.args.at + 3 * c.loop-i.i)
    3 _ _ _ refl c.loop-i.invariant c.put_three.ensures
    (under_three (side_at c.args.side) c.args.lower c.args.upper c.loop-i.i _ _ _ c.number-a.ensures c.number-b.ensures
    (c.number-c.ensures ∙ ap (row_number c.args.lower) c.under.ensures.0)))
