-- `mark_corners` meets its contract: the corners below c have the marks of their vertices.
use native.Mathlib.Omega.{arith}
use Rattle.touching.proofs.mark_corners.Goals as goal

pub loop-c-init : goal.loop-c-init
loop-c-init c = λ d h. absurd (omega arith)
