-- No entry before `c` is above the greatest met.
use Prim.Native.Nat.{ℕ, ◌≤◌, ◌<◌}
use Rattle.walk.specs.Table.{to_link, entry}
use Rattle.checks.proofs.edges.highest_entry.Given as goal

abbrev pub invariant-loop-c : goal.invariant-loop-c
invariant-loop-c l = (j : ℕ) → j < l.c → entry l.table to_link j ≤ l.most
