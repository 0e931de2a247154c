-- `faces::formulas::mean_of_three` meets its contract: the sums fit, and a third of the last one is no larger than the largest of its terms.
use mathlib.Core.Path.{refl}
use Prim.Native.Nat.{◌^◌}
use native.Mathlib.Omega.{arith}
use borrow.Author.Rules.{rules}
use lib.IntN.{pos}
use mir.Syntax.{w32}
use Rattle.surface.specs.Sizes.{RefinedSize}
use Rattle.surface.proofs.Formulas.{mean_of_three_refined}
use Rattle.faces.proofs.Sums.{Sum, arg, ◌⊕◌, SumHeld, holds, small_answers}
use Rattle.faces.proofs.formulas.mean_of_three.Goals as goal
use Rattle.faces.proofs.formulas.mean_of_three.Goals.{Start}

module _ (c : Start) where
  abbrev sum : Sum
  sum = arg c.args.a ⊕ arg c.args.b ⊕ arg c.args.c

  fine : SumHeld w32 (2 ^ 24) sum
  fine = holds w32 (2 ^ 24) sum (omega arith) (omega arith)

pub returns : goal.returns
returns c =
    let q = c.round_small.result in
    small_answers (2 ^ 24) _ q RefinedSize (search rules) (sum (search)) (pos 3) (fine (search)) refl tt (mean_of_three_refined c.args.a c.args.b c.args.c q c.requires) c.round_small.ensures
