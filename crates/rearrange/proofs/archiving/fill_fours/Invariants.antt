-- After each turn every plane holds a first vertex and some fours.
use Prim.Native.Nat.{◌+◌, ◌*◌}
use Rattle.planes.specs.Planes.{Planed}
use Rattle.rearrange.proofs.archiving.fill_fours.Given as goal

abbrev pub invariant-loop-k : goal.invariant-loop-k
invariant-loop-k l = Planed l.numbers (3 + 4 * l.k) l.bytes
