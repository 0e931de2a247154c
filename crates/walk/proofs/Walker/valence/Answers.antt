-- `walk::Walker::valence` meets its contract: the column of the table that it reads.
use Rattle.walk.proofs.Table.{led}
use Rattle.walk.proofs.Walker.valence.Goals as goal

pub returns : goal.returns
returns c = led _ _ _ _ _ (λ K T l. T.valences _ l) c.read.ensures
