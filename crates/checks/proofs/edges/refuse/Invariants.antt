-- `refuse` meets its contract: no corner before `c` has the entry.
use mathlib.Core.Path.{◌≡◌}
use mathlib.Core.Bool.{false}
use Prim.Native.Nat.{ℕ, ◌<◌}
use Rattle.checks.specs.edges.Entries.{has}
use Rattle.checks.proofs.edges.refuse.Given as goal

abbrev pub invariant-loop-c : goal.invariant-loop-c
invariant-loop-c l = (j : ℕ) → j < l.c → has l.table l.x j ≡ false
