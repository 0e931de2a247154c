-- `fill_lowest` meets its contract: at the end each vertex has its lowest.
use mathlib.Core.Path.{subst, ◌≡◌}
use native.Mathlib.Omega.{arith}
use Prim.Native.Nat.{ℕ}
use Rattle.owners.proofs.Walked.{Low, lows_of}
use Rattle.owners.proofs.fill_lowest.Goals as goal

pub returns : goal.returns
returns c =
    let l = c.loop-c in lows_of c.args.corners.now l.low (λ e h. omega (arith, c.requires.0 e h))
    (λ e a b. subst (λ (x : ℕ). Low c.args.corners.now l.low x e) (let z : l.c ≡ 0 = omega arith in z) (l.invariant e (omega arith) b))
