-- `under` meets its contract.
use Prim.Native.Nat.{ℕ, ◌-◌}
use mathlib.Core.Path.{◌∙◌, ap}
use native.Mathlib.Omega.{arith}
use Rattle.strips.proofs.Rowed.{foot_even, foot_odd, step_some}
use Rattle.strips.proofs.under.Goals as goal

pub returns-then-side-eq0 : goal.returns-then-side-eq0
returns-then-side-eq0 c = (c.step.ensures.0 ∙ foot_even c.args.p c.args.u c.args.i (omega arith) (omega arith) c.args.side c.requires.0 c.if-side-eq0.true, c.step.ensures.1)

pub returns : goal.returns
returns c = (ap (λ (x : ℕ). c.args.p - x) c.step-2.ensures.0 ∙ foot_odd c.args.p c.args.u c.args.i (omega arith) (omega arith) c.args.side c.requires.0 c.if-side-eq0.false, omega (arith, step_some c.args.p c.args.u (c.args.u - 2 - c.args.i) (omega arith) (omega arith)))
