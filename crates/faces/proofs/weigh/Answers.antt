-- `faces::weigh` meets its contract: the sums fit, in any order.
use mathlib.Core.Path.{◌≡◌, ◌∙◌}
use Prim.Native.Nat.{◌*◌}
use native.Mathlib.Omega.{arith}
use lib.IntN.{ℤ, pos, ◌+ℤ◌, ◌*ℤ◌}
use mir.Syntax.{w64}
use Rattle.paper.specs.Cosines.{unit}
use Rattle.numbers.proofs.Poly.{over, poly}
use Rattle.faces.proofs.Sums.{Sum, arg, ◌⊕◌, ◌⊗◌, SumHeld, holds}
use Rattle.faces.proofs.weigh.Goals as goal

module _ (c : goal.Start) where
  abbrev sum : Sum
  sum = arg (pos (3 * unit)) ⊕ 2 ⊗ (arg c.args.last ⊕ arg c.args.next)

  fine : SumHeld w64 (3 * unit) sum
  fine = holds w64 (3 * unit) sum (omega arith) (omega arith)

same : (w a b : ℤ) → w +ℤ pos 2 *ℤ (a +ℤ b) ≡ w +ℤ pos 2 *ℤ b +ℤ pos 2 *ℤ a
same = over 3 _ λ ρ. simp (poly, ρ) (omega arith)

pub returns : goal.returns
returns c = (fine c).is ∙ same (pos (3 * unit)) c.args.last c.args.next

pub overflow_add-result : goal.overflow_add-result
overflow_add-result c = search (fine c)

pub overflow_mul-result : goal.overflow_mul-result
overflow_mul-result c = search (fine c)

pub overflow_add-result-2 : goal.overflow_add-result-2
overflow_add-result-2 c = search (fine c)
