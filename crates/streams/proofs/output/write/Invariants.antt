-- Each turn writes at least a byte.
use lib.ListN.{length}
use Rattle.streams.proofs.output.write.Given as goal

abbrev pub decreases-loop-rest : goal.decreases-loop-rest
decreases-loop-rest g l = length l.rest
