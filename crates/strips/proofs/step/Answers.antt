-- `step` meets its contract.
use mathlib.Core.Path.{refl}
use native.Mathlib.Omega.{arith}
use Rattle.strips.proofs.Rowed.{step_less}
use Rattle.strips.proofs.step.Goals as goal
use Rattle.strips.proofs.step.Goals.{Start}

pub returns : goal.returns
returns c = (refl, step_less c.args.p c.args.u c.args.i (omega arith) (omega arith))
