-- `faces::formulas::quarter` meets its contract: the sums fit, and a quarter of the last one is no larger than the larger of the two.
use mathlib.Core.Path.{refl}
use Prim.Native.Nat.{◌^◌}
use native.Mathlib.Omega.{arith}
use borrow.Author.Rules.{rules}
use lib.IntN.{pos}
use mir.Syntax.{w32}
use Rattle.surface.specs.Sizes.{WrittenSize}
use Rattle.surface.proofs.Formulas.{quarter_written}
use Rattle.faces.proofs.Sums.{Sum, arg, ◌⊕◌, ◌⊗◌, SumHeld, holds, small_answers}
use Rattle.faces.proofs.formulas.quarter.Goals as goal
use Rattle.faces.proofs.formulas.quarter.Goals.{Start}

module _ (c : Start) where
  abbrev sum : Sum
  sum = arg c.args.e ⊕ 3 ⊗ arg c.args.x

  fine : SumHeld w32 (2 ^ 25) sum
  fine = holds w32 (2 ^ 25) sum (omega arith) (omega arith)

pub returns : goal.returns
returns c =
    let q = c.round_small.result in
    small_answers (2 ^ 25) _ q WrittenSize (search rules) (sum (search)) (pos 4) (fine (search)) refl tt (quarter_written c.args.e c.args.x q c.requires) c.round_small.ensures
