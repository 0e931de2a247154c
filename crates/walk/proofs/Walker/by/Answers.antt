-- `walk::Walker::by` meets its contract: the column of the table that it reads.
use Rattle.walk.proofs.Walker.by.Goals as goal

pub returns : goal.returns
returns c = c.read-to.ensures
