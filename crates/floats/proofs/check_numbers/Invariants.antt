-- Check 19 meets its contract: no number before `i` is at fault.
use mathlib.Core.Path.{◌≡◌}
use mathlib.Core.Bool.{false}
use Prim.Native.Nat.{ℕ, ◌<◌}
use Rattle.paper.specs.Floats.{fault19}
use Rattle.floats.proofs.check_numbers.Given as goal

abbrev pub invariant-loop-i : goal.invariant-loop-i
invariant-loop-i l = (j : ℕ) → j < l.i → fault19 l.numbers j ≡ false
