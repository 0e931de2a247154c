-- `floats::put_nets` meets its contract: before each turn the floats of the quad-nets before are written.
use mathlib.Core.Path.{◌≡◌}
use lib.ListN.{length}
use Rattle.floats.proofs.All.{FloatsTo}
use Rattle.floats.proofs.put_nets.Given as goal

abbrev pub invariant-loop-t : goal.invariant-loop-t
invariant-loop-t l = (length l.floats ≡ length l.initial.floats) × FloatsTo l.numbers l.initial.floats l.t l.floats
