-- Four numbers more in each plane.
use Rattle.planes.proofs.Planes.{planed_four}
use Rattle.planes.proofs.put_four.Goals as goal

pub returns : goal.returns
returns c =
    planed_four c.args.numbers.now c.args.i _ _ _ _ c.delta_at-a.ensures c.delta_at-b.ensures c.delta_at-c.ensures
    c.delta_at-d.ensures _ _ _ _ _ c.requires.1 c.requires.2 c.put.ensures c.put-2.ensures c.put-3.ensures
    c.put-4.ensures
