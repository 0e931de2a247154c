-- `net_points::writing::put_rings` meets its contract: the sides before are put.
use mathlib.Core.Path.{refl}
use Prim.Native.Nat.{◌+◌, ◌<◌}
use native.Mathlib.Omega.{arith}
use Rattle.net_points.proofs.writing.Laws.{reaches_part}
use Rattle.net_points.proofs.writing.Parts.{spoke_aim, rings_step}
use Rattle.net_points.proofs.writing.put_rings.Goals as goal

pub put_spokes-requires : goal.put_spokes-requires
put_spokes-requires c =
    (c.turn_points.ensures.sampleable c.args.n c.requires.1 c.requires.2, omega arith, omega (arith, c.requires.3))

pub put_spokes-requires-in-loop-side : goal.put_spokes-requires-in-loop-side
put_spokes-requires-in-loop-side c =
    (c.turn_points-in-loop-side.ensures.sampleable c.args.n c.requires.1 c.requires.2, omega arith, omega (arith, c.requires.3))

pub put_spokes-requires-in-loop-side-2 : goal.put_spokes-requires-in-loop-side-2
put_spokes-requires-in-loop-side-2 c =
    (c.turn_points-in-loop-side-2.ensures.sampleable c.args.n c.requires.1 c.requires.2, omega arith, omega (arith, c.requires.3))

pub loop-side-preserved : goal.loop-side-preserved
loop-side-preserved c =
    let b : c.loop-side.side < 4 = omega arith in
    let l = c.loop-side in
    λ f aim.
    rings_step c.args.numbers.now c.args.n c.args.at l.side b f aim c.args.points.now l.points _ _ _ (l.invariant f aim)
    (c.put_spokes.ensures f
    (spoke_aim c.args.numbers.now c.args.n c.args.at l.side b f aim 0 c.args.at (omega arith) (omega arith) _ c.turn_points.ensures))
    (c.put_spokes-in-loop-side.ensures f
    (spoke_aim c.args.numbers.now c.args.n c.args.at l.side b f aim 1 (c.args.at + 1) (omega arith) refl _ c.turn_points-in-loop-side.ensures))
    (c.put_spokes-in-loop-side-2.ensures f
    (spoke_aim c.args.numbers.now c.args.n c.args.at l.side b f aim 2 (c.args.at + 2) (omega arith) refl _ c.turn_points-in-loop-side-2.ensures))

pub returns : goal.returns
returns c =
    let l = c.loop-side in
    λ f aim. reaches_part (l.invariant f aim) (λ t s. (s.0, s.1, s.2, s.3, (let b = s.4 in omega arith), s.5, s.6, s.7))
