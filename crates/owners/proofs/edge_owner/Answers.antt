-- `edge_owner` meets its contract: the lower of two.
use mathlib.Core.Path.{◌∙◌}
use lib.Dec.{lit<}
use Rattle.owners.proofs.Walked.{row_in, here_link, edge_min}
use Rattle.owners.proofs.edge_owner.Goals as goal

pub previous-to-requires : goal.previous-to-requires
previous-to-requires c = row_in c.requires.mesh _ _ (here_link c.requires.mesh _ _ c.requires.here _ c.linked-there.ensures) 1 (lit< tt)

pub returns : goal.returns
returns c = λ M h. c.min.ensures ∙ edge_min M _ _ _ _ h c.linked-there.ensures c.previous-to.ensures
