-- The counts of corners are those of the mesh.
use Rattle.irregular.proofs.Laws.{countable}
use Rattle.irregular.proofs.lowest_vertex.Goals as goal

pub count_corners-requires : goal.count_corners-requires
count_corners-requires c =
    countable c.args.corners.now c.args.count c.requires.0 c.requires.1 c.requires.2
