-- The links below `c` are copied.
use Rattle.std.proofs.Common.{◌≡◌, ℕ, ◌<◌, get_or}
use Rattle.walk.specs.Table.{to_link, entry}
use Rattle.linking.proofs.copy.Given as goal

abbrev pub invariant-loop-c : goal.invariant-loop-c
invariant-loop-c l = (d : ℕ) → d < l.c → get_or l.links d 0 ≡ entry l.table to_link d
