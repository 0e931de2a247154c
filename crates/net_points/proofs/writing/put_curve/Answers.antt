-- `net_points::writing::put_curve` meets its contract, axis by axis.
use mathlib.Core.Path.{refl}
use Prim.Native.Nat.{◌+◌}
use native.Mathlib.Omega.{arith}
use Rattle.net_points.proofs.writing.Parts.{curve_row, curve_all}
use Rattle.net_points.proofs.writing.put_curve.Goals as goal

pub put_curve_on-requires : goal.put_curve_on-requires
put_curve_on-requires c =
    (c.turn_points.ensures.sampleable c.args.m c.requires.parts.0 c.requires.parts.1, omega (arith, c.requires.parts.2))

pub put_curve_on-requires-2 : goal.put_curve_on-requires-2
put_curve_on-requires-2 c =
    (c.turn_points-2.ensures.sampleable c.args.m c.requires.parts.0 c.requires.parts.1, omega (arith, c.requires.parts.2, c.put_curve_on.auto.points))

pub put_curve_on-requires-3 : goal.put_curve_on-requires-3
put_curve_on-requires-3 c =
    (c.turn_points-3.ensures.sampleable c.args.m c.requires.parts.0 c.requires.parts.1, omega (arith, c.requires.parts.2, c.put_curve_on.auto.points, c.put_curve_on-2.auto.points))

pub returns : goal.returns
returns c =
    λ f aim.
    curve_all c.args.numbers.now c.args.side c.args.m c.args.at c.requires.parts.0 f aim _ _ _ _
    (curve_row c.args.numbers.now c.args.side c.args.m c.args.at c.requires.parts.0 f aim 0 c.args.at (omega arith) (omega arith) _
    c.turn_points.ensures _ _ c.put_curve_on.ensures)
    (curve_row c.args.numbers.now c.args.side c.args.m c.args.at c.requires.parts.0 f aim 1 (c.args.at + 1) (omega arith) refl _
    c.turn_points-2.ensures _ _ c.put_curve_on-2.ensures)
    (curve_row c.args.numbers.now c.args.side c.args.m c.args.at c.requires.parts.0 f aim 2 (c.args.at + 2) (omega arith) refl _
    c.turn_points-3.ensures _ _ c.put_curve_on-3.ensures)
