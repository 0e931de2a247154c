-- `put_under_plain` meets its contract: after i turns the triangles under the first i segments stand there.
use mathlib.Core.Path.{◌≡◌, refl}
use Prim.Native.Nat.{ℕ, ◌+◌, ◌-◌, ◌*◌}
use native.Mathlib.Omega.{arith}
use Rattle.paper.specs.Sampling.{side_at}
use Rattle.strips.specs.PointRows.{strip_number, three}
use Rattle.strips.proofs.Rowed.{fills_more, fills_as}
use Rattle.strips.proofs.Plains.{plain_under, plain_under_last}
use Rattle.strips.proofs.put_under_plain.Goals as goal

pub loop-i-preserved : goal.loop-i-preserved
loop-i-preserved c =
    let v = c.loop-i.invariant in
    let i = c.loop-i.i in
    let L = c.args.lower in
    let U = c.args.upper in
    let g : ℕ → ℕ = λ x. strip_number (side_at c.args.side) L U (3 * L.parts + x) in (
      v.0,
      v.1,
      v.2,
      v.3,
      fills_as g c.args.at (3 * i + 3) (3 * (i + 1)) _ _ (omega arith)
          (fills_more g (three (U.first + i + 1) (U.first + i) (L.base + i)) c.args.at (3 * i) (c.args.at + 3 * i) 3 _ _ _ refl v.4
          c.put_three.ensures (plain_under (side_at c.args.side) L U c.requires.1 i (omega (arith, v.0)))),
    )

pub returns : goal.returns
returns c =
    let v = c.loop-i.invariant in
    let i = c.loop-i.i in
    let L = c.args.lower in
    let U = c.args.upper in
    let w = U.parts - 1 in
    let g : ℕ → ℕ = λ x. strip_number (side_at c.args.side) L U (3 * L.parts + x) in
    let e : i ≡ w = omega (arith, v.0) in
    fills_as g c.args.at (3 * w + 3) (3 * U.parts) _ _ (omega (arith, v.0))
    (fills_more g (three U.last (U.first + w) (L.base + w)) c.args.at (3 * w) (c.args.at + 3 * w) 3 _ _ _ refl
    (fills_as g c.args.at (3 * i) (3 * w) _ _ (omega (arith, e)) v.4) c.put_three-2.ensures
    (plain_under_last (side_at c.args.side) L U c.requires.1 w (omega (arith, v.0))))
