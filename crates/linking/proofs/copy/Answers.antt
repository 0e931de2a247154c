-- Before the first corner no link is copied.
use Rattle.std.proofs.Common.{arith}
use Rattle.linking.proofs.copy.Goals as goal

pub loop-c-init : goal.loop-c-init
loop-c-init c d h = absurd (omega arith)
