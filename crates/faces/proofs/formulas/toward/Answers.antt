-- `faces::formulas::toward` meets its contract: the sums fit, and a twelfth of the last one is no larger than the largest of its terms.
use mathlib.Core.Path.{◌≡◌}
use Prim.Native.Nat.{◌^◌}
use native.Mathlib.Omega.{arith}
use borrow.Author.Rules.{rules}
use lib.IntN.{ℤ, pos, ◌+ℤ◌, ◌*ℤ◌}
use lib.Signed.{le_z_yes, lt_z_yes}
use mir.Syntax.{w32}
use Rattle.numbers.proofs.Poly.{over, poly}
use Rattle.surface.specs.Sizes.{RefinedSize}
use Rattle.surface.proofs.Formulas.{toward_refined}
use Rattle.faces.proofs.Sums.{Sum, arg, ◌⊕◌, ◌⊗◌, SumHeld, holds, small_answers}
use Rattle.faces.proofs.formulas.toward.Goals as goal

module _ (c : goal.Start) where
  abbrev sum : Sum
  sum = 5 ⊗ (arg c.args.a ⊕ arg c.args.b) ⊕ arg c.args.c ⊕ arg c.args.d

  fine : SumHeld w32 (2 ^ 24) sum
  fine = holds w32 (2 ^ 24) sum (omega arith) (omega arith)

same : (a b c d : ℤ) → pos 5 *ℤ (a +ℤ b) +ℤ c +ℤ d ≡ pos 5 *ℤ a +ℤ pos 5 *ℤ b +ℤ c +ℤ d
same = over 4 _ λ ρ. simp (poly, ρ) (omega arith)

pub round_small-requires : goal.round_small-requires
round_small-requires c = (lt_z_yes tt, le_z_yes tt, omega (arith, (fine c).sized))

pub returns : goal.returns
returns c =
    let q = c.round_small.result in
    small_answers (2 ^ 24) _ q RefinedSize (search rules) (sum (search)) (pos 12) (fine (search)) (same c.args.a c.args.b c.args.c c.args.d) tt (toward_refined c.args.a c.args.b c.args.c c.args.d q c.requires) c.round_small.ensures

pub overflow_add-a : goal.overflow_add-a
overflow_add-a c = search (fine c)

pub overflow_mul-a : goal.overflow_mul-a
overflow_mul-a c = search (fine c)

pub overflow_add-a-2 : goal.overflow_add-a-2
overflow_add-a-2 c = search (fine c)

pub overflow_add-a-3 : goal.overflow_add-a-3
overflow_add-a-3 c = search (fine c)
