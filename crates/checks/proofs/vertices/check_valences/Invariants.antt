-- Check 12 meets its contract: no vertex before `u` is at fault.
use mathlib.Core.Path.{◌≡◌}
use mathlib.Core.Bool.{false}
use Prim.Native.Nat.{ℕ, ◌<◌}
use Rattle.paper.specs.Faults.{fault12}
use Rattle.checks.proofs.vertices.check_valences.Given as goal

abbrev pub invariant-loop-u : goal.invariant-loop-u
invariant-loop-u l = (j : ℕ) → j < l.u → fault12 l.corners j ≡ false
