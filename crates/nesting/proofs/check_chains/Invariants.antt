-- Check 23 meets its contract: no body before `b` is at fault.
use mathlib.Core.Path.{◌≡◌}
use mathlib.Core.Bool.{false}
use Prim.Native.Nat.{ℕ, ◌<◌}
use Rattle.paper.specs.Nesting.{fault23}
use Rattle.nesting.proofs.check_chains.Given as goal

abbrev pub invariant-loop-b : goal.invariant-loop-b
invariant-loop-b l = (j : ℕ) → j < l.b → fault23 l.holders j ≡ false
