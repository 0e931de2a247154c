-- `net::copy::copy` meets its contract. The invariant: i runs of eight points are copied.
use Prim.Native.Nat.{◌*◌}
use Rattle.net.specs.copy.Copy.{PointsCopied}
use Rattle.net.proofs.copy.copy.Given as goal

abbrev pub invariant-loop-i : goal.invariant-loop-i
invariant-loop-i l = PointsCopied l.lanes l.at 0 (8 * l.i) l.initial.out l.out
