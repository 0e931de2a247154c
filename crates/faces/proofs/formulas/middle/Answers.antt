-- `faces::formulas::middle` meets its contract: the sums fit, and a sixteenth of the last one is bounded by its terms.
use mathlib.Core.Path.{◌≡◌}
use Prim.Native.Nat.{◌^◌}
use native.Mathlib.Omega.{arith}
use borrow.Author.Rules.{rules}
use lib.IntN.{ℤ, pos, ◌+ℤ◌, ◌-ℤ◌, ◌*ℤ◌}
use lib.Signed.{le_z_yes, lt_z_yes}
use mir.Syntax.{w32}
use Rattle.numbers.proofs.Poly.{over, poly}
use Rattle.surface.specs.Sizes.{WrittenSize}
use Rattle.surface.proofs.Formulas.{middle_written}
use Rattle.faces.proofs.Sums.{Sum, arg, ◌⊕◌, ◌⊖◌, ◌⊗◌, SumHeld, holds, small_answers}
use Rattle.faces.proofs.formulas.middle.Goals as goal

module _ (c : goal.Start) where
  abbrev sum : Sum
  sum = 3 ⊗ (arg c.args.x ⊕ arg c.args.y ⊕ 4 ⊗ arg c.args.n) ⊕ 2 ⊗ (arg c.args.n ⊕ arg c.args.o ⊖ (arg c.args.g ⊕ arg c.args.l)) ⊖ (arg c.args.h ⊕ arg c.args.t)

  fine : SumHeld w32 (2 ^ 25) sum
  fine = holds w32 (2 ^ 25) sum (omega arith) (omega arith)

same : (n o g l x y h t : ℤ) → pos 3 *ℤ (x +ℤ y +ℤ pos 4 *ℤ n) +ℤ pos 2 *ℤ (n +ℤ o -ℤ (g +ℤ l)) -ℤ (h +ℤ t) ≡ pos 14 *ℤ n +ℤ pos 2 *ℤ (o -ℤ g -ℤ l) +ℤ pos 3 *ℤ (x +ℤ y) -ℤ h -ℤ t
same = over 8 _ λ ρ. simp (poly, ρ) (omega arith)

pub round_small-requires : goal.round_small-requires
round_small-requires c = (lt_z_yes tt, le_z_yes tt, omega (arith, (fine c).sized))

pub returns : goal.returns
returns c =
    let q = c.round_small.result in
    small_answers (2 ^ 25) _ q WrittenSize (search rules) (sum (search)) (pos 16) (fine (search)) (same c.args.n c.args.o c.args.g c.args.l c.args.x c.args.y c.args.h c.args.t) tt (middle_written c.args.n c.args.o c.args.g c.args.l c.args.x c.args.y c.args.h c.args.t q c.requires) c.round_small.ensures

pub overflow_add-along-3 : goal.overflow_add-along-3
overflow_add-along-3 c = search (fine c)

pub overflow_sub-along : goal.overflow_sub-along
overflow_sub-along c = search (fine c)
