-- `faces::formulas::half` meets its contract: the sum fits, and half of it is no larger than the larger of the two.
use mathlib.Core.Path.{refl}
use Prim.Native.Nat.{◌^◌}
use native.Mathlib.Omega.{arith}
use borrow.Author.Rules.{rules}
use lib.IntN.{pos}
use lib.Signed.{le_z_yes, lt_z_yes}
use mir.Syntax.{w32}
use Rattle.surface.specs.Sizes.{WrittenSize}
use Rattle.surface.proofs.Formulas.{half_written}
use Rattle.faces.proofs.Sums.{Sum, arg, ◌⊕◌, SumHeld, holds, small_answers}
use Rattle.faces.proofs.formulas.half.Goals as goal

module _ (c : goal.Start) where
  abbrev sum : Sum
  sum = arg c.args.a ⊕ arg c.args.b

  fine : SumHeld w32 (2 ^ 26) sum
  fine = holds w32 (2 ^ 26) sum (omega arith) (omega arith)

pub round_small-requires : goal.round_small-requires
round_small-requires c = (lt_z_yes tt, le_z_yes tt, omega (arith, (fine c).sized))

pub returns : goal.returns
returns c =
    let q = c.round_small.result in
    small_answers (2 ^ 26) _ q WrittenSize (search rules) (sum (search)) (pos 2) (fine (search)) refl tt (half_written c.args.a c.args.b q c.requires) c.round_small.ensures

pub overflow_add-a : goal.overflow_add-a
overflow_add-a c = search (fine c)
