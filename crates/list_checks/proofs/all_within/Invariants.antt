-- `all_within` meets its contract: where no number at fault was met, none before `z` is.
use mathlib.Core.Path.{◌≡◌}
use mathlib.Core.Bool.{true, false}
use Prim.Native.Nat.{ℕ, ◌<◌}
use Rattle.paper.specs.Faults.{fault7}
use Rattle.list_checks.proofs.all_within.Given as goal

abbrev pub invariant-loop-z : goal.invariant-loop-z
invariant-loop-z l = l.within ≡ true → (j : ℕ) → j < l.z-index → fault7 l.coordinates j ≡ false
