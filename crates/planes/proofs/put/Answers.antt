-- `put` meets its contract, store by store.
use Rattle.std.proofs.Common.{refl, arith, length-set}
use Rattle.planes.specs.Planes.{four_set}
use Rattle.planes.proofs.put.Goals as goal

pub returns : goal.returns
unfolding four_set
returns c = refl

pub bounds-bytes-step : goal.bounds-bytes-step
bounds-bytes-step c = simp length-set (omega arith)

pub bounds-bytes-step-2 : goal.bounds-bytes-step-2
bounds-bytes-step-2 c = simp length-set (omega arith)

pub bounds-bytes-step-3 : goal.bounds-bytes-step-3
bounds-bytes-step-3 c = simp length-set (omega arith)
