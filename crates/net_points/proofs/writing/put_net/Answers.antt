-- `net_points::writing::put_net` meets its contract: ends, curves, rings and centre are all the groups.
use mathlib.Core.Path.{◌≡◌}
use native.Mathlib.Omega.{arith}
use lib.ListN.{length}
use Rattle.floats.proofs.Laws.{is_long}
use Rattle.net_points.proofs.writing.Groups.{vertex_aim, edge_aim, face_aim, first_aim, second_aim, rings_aim, centre_aim, net_put}
use Rattle.net_points.proofs.writing.put_net.Goals as goal
use Rattle.net_points.proofs.writing.put_net.Goals.{Start}

-- what the call asks
module _ (s : Start) where
  long : length s.args.numbers.now ≡ 123
  long = is_long s.args.numbers.now s.requires.0

pub put_end-requires : goal.put_end-requires
put_end-requires c =
    let o = c.requires.1 in (omega (arith, long (search)), o.vertex, omega (arith, c.requires.2))

pub put_end-requires-2 : goal.put_end-requires-2
put_end-requires-2 c =
    let o = c.requires.1 in (omega (arith, long (search)), o.edge, omega (arith, c.requires.2, c.put_end.auto.points))

pub put_end-requires-3 : goal.put_end-requires-3
put_end-requires-3 c =
    let o = c.requires.1 in (omega (arith, long (search)), o.face, omega (arith, c.requires.2, c.put_end.auto.points, c.put_end-2.auto.points))

pub put_end-requires-4 : goal.put_end-requires-4
put_end-requires-4 c =
    (omega (arith, long (search)), omega arith, omega (arith, c.requires.2, c.put_end.auto.points, c.put_end-2.auto.points, c.put_end-3.auto.points, c.put_curve.auto.points, c.put_curve-2.auto.points, c.put_rings.auto.points))

pub returns : goal.returns
returns c =
    let o = c.requires.1 in
    λ f aim.
    net_put c.args.numbers.now c.args.shape o c.args.at f aim _ _ _ _ _ _ _ _
    (c.put_end.ensures f (vertex_aim c.args.numbers.now c.args.shape o c.args.at f aim))
    (c.put_end-2.ensures f (edge_aim c.args.numbers.now c.args.shape o c.args.at f aim))
    (c.put_end-3.ensures f (face_aim c.args.numbers.now c.args.shape o c.args.at f aim))
    (c.put_curve.ensures f (first_aim c.args.numbers.now c.args.shape o c.args.at f aim))
    (c.put_curve-2.ensures f (second_aim c.args.numbers.now c.args.shape o c.args.at f aim))
    (c.put_rings.ensures f (rings_aim c.args.numbers.now c.args.shape o c.args.at f aim))
    (c.put_end-4.ensures f (centre_aim c.args.numbers.now c.args.shape o c.args.at f aim))
