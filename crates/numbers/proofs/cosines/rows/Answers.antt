-- `cosines::rows` meets its contract: the constant is the table, each row with the places of the last.
use mathlib.Core.Path.{refl}
use Rattle.paper.specs.Cosines.{table}
use Rattle.numbers.specs.Stored.{stored}
use Rattle.numbers.proofs.cosines.rows.Goals as goal

pub returns : goal.returns
unfolding stored table
returns c = refl
