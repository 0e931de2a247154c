-- `net::copy::copy_run` meets its contract. The invariant: the first j points are copied.
use Prim.Native.Nat.{◌+◌}
use Rattle.net.specs.copy.Copy.{PointsCopied}
use Rattle.net.proofs.copy.copy_run.Given as goal

abbrev pub invariant-loop-j : goal.invariant-loop-j
invariant-loop-j l = PointsCopied l.lanes l.at l.point (l.point + l.j) l.initial.out l.out
