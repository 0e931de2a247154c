-- `fill_lowest` meets its contract: from the last corner down to c, each vertex has its lowest.
use Prim.Native.Nat.{ℕ, ◌<◌, ◌≤◌}
use lib.ListN.{length}
use Rattle.owners.proofs.Walked.{Low}
use Rattle.owners.proofs.fill_lowest.Given as goal

abbrev pub invariant-loop-c : goal.invariant-loop-c
invariant-loop-c l = (e : ℕ) → l.c ≤ e → e < length l.corners → Low l.corners l.low l.c e
