-- `put_indices` meets its contract: a mesh has no more corners than the list of starts has places.
use Rattle.numbering.proofs.Lent.{levels_few}
use Rattle.index_list.proofs.put_indices.Goals as goal

pub fill_starts-requires : goal.fill_starts-requires
fill_starts-requires c =
    let g = c.requires.given.0 in let few = levels_few g.mesh g.is in (g, few, few)
