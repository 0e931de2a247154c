-- `fill_starts` meets its contract: a running sum, stored at each corner.
use native.Mathlib.Omega.{arith}
use Rattle.index_list.proofs.Rows.{points_zero}
use Rattle.index_list.proofs.fill_starts.Goals as goal

pub loop-c-init : goal.loop-c-init
loop-c-init c = (omega arith, λ M o. (points_zero M _, λ e h. absurd (omega arith)))
