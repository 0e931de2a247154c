-- `put_over_plain` meets its contract: after t turns the triangles over the first t segments stand there.
use mathlib.Core.Path.{◌≡◌, refl}
use Prim.Native.Nat.{◌+◌, ◌*◌}
use native.Mathlib.Omega.{arith}
use Rattle.paper.specs.Sampling.{side_at}
use Rattle.strips.specs.PointRows.{strip_number, three}
use Rattle.strips.proofs.Rowed.{fills_more, fills_as}
use Rattle.strips.proofs.Plains.{plain_over, plain_over_last}
use Rattle.strips.proofs.put_over_plain.Goals as goal

pub loop-t-preserved : goal.loop-t-preserved
loop-t-preserved c =
    let v = c.loop-t.invariant in
    let t = c.loop-t.t in
    let L = c.args.lower in
    let U = c.args.upper in
    let g = strip_number (side_at c.args.side) L U in (
      v.0,
      v.1,
      v.2,
      v.3,
      fills_as g c.args.at (3 * t + 3) (3 * (t + 1)) _ _ (omega arith)
          (fills_more g (three (L.first + t) (L.first + t + 1) (U.first + t)) c.args.at (3 * t) (c.args.at + 3 * t) 3 _ _ _ refl v.4
          c.put_three.ensures (plain_over (side_at c.args.side) L U c.requires.1 t (omega arith))),
    )

pub returns : goal.returns
returns c =
    let v = c.loop-t.invariant in
    let t = c.loop-t.t in
    let L = c.args.lower in
    let U = c.args.upper in
    let g = strip_number (side_at c.args.side) L U in
    let e : t ≡ U.parts = omega arith in
    fills_as g c.args.at (3 * U.parts + 3) (3 * L.parts) _ _ (omega (arith, v.3))
    (fills_more g (three (L.first + U.parts) L.last c.number-c.result) c.args.at (3 * U.parts) (c.args.at + 3 * U.parts) 3 _ _ _ refl
    (fills_as g c.args.at (3 * t) (3 * U.parts) _ _ (omega (arith, e)) v.4) c.put_three-2.ensures
    (plain_over_last (side_at c.args.side) L U c.requires.1 c.number-c.result c.number-c.ensures))
