-- `net_points::writing::reversed` meets its contract: the numbers keep their bits.
use borrow.Author.Rules.{rules}
use Rattle.net_points.specs.writing.Laid.{reversed_of}
use Rattle.net_points.proofs.writing.reversed.Goals as goal

pub returns : goal.returns
unfolding reversed_of
returns c = search rules
