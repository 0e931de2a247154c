-- `find_link` meets its contract: the tables agree below `c`, and an entry that differs is the lowest fault.
use mathlib.Core.Path.{◌≡◌}
use Prim.Native.Nat.{ℕ, ◌<◌}
use lib.ListN.{get_or}
use Rattle.walk.specs.Table.{to_link, entry}
use Rattle.checks.proofs.requests.find_link.Given as goal

abbrev pub invariant-loop-c : goal.invariant-loop-c
invariant-loop-c l = (j : ℕ) → j < l.c → get_or l.links j 0 ≡ entry l.table to_link j
