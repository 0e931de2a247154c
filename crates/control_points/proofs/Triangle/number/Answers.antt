-- `control_points::Triangle::number` meets its contract: 18 keeps the place within the list, 19 the number within ±2^27.
use native.Mathlib.Omega.{arith}
use Rattle.floats.proofs.Laws.{is_long}
use Rattle.control_points.proofs.Laws.{number_is, number_size}
use Rattle.control_points.proofs.Triangle.number.Goals as goal

pub returns : goal.returns
returns c =
    let t = c.args.self.now in
    let e = number_is t.numbers.now t.net c.args.point t.axis t.within.1 c.requires in
    rw c.from.ensures (e, rw e (number_size t.numbers.now t.net c.args.point t.axis t.within.1 c.requires))

pub bounds-self-point : goal.bounds-self-point
bounds-self-point c = let t = c.args.self.now in omega (arith, is_long _ t.net, t.within.1, c.requires)

pub offset_bounds-self-point : goal.offset_bounds-self-point
offset_bounds-self-point c = let t = c.args.self.now in omega (arith, t.within.1, c.requires)

pub overflow_add-point : goal.overflow_add-point
overflow_add-point c = let t = c.args.self.now in omega (arith, t.within.1, c.requires)
