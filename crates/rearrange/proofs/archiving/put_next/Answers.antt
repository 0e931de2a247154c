-- One number more in each plane.
use mathlib.Core.Path.{refl}
use Rattle.rearrange.proofs.archiving.Planes.{planed_one}
use Rattle.rearrange.proofs.archiving.put_next.Goals as goal

pub returns : goal.returns
returns c =
    let d = c.delta_at in
    planed_one c.args.numbers.now _ c.args.i d.result _ _ refl c.requires.1 d.ensures c.requires.2 c.put_number.ensures
