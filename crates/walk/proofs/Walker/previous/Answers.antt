-- `walk::Walker::previous` meets its contract: the column of the table that it reads.
use Rattle.walk.proofs.Table.{led}
use Rattle.walk.proofs.Walker.previous.Goals as goal

pub returns : goal.returns
returns c = led _ _ _ _ _ (λ K T l. T.previouses _ l) c.read-to.ensures
