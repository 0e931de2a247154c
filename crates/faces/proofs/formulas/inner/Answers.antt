-- `faces::formulas::inner` meets its contract: the sums fit, and a sixth of the last one is bounded by its terms.
use mathlib.Core.Path.{◌≡◌}
use Prim.Native.Nat.{◌^◌}
use native.Mathlib.Omega.{arith}
use borrow.Author.Rules.{rules}
use lib.IntN.{ℤ, pos, ◌+ℤ◌, ◌-ℤ◌, ◌*ℤ◌}
use lib.Signed.{le_z_yes, lt_z_yes}
use mir.Syntax.{w32}
use Rattle.numbers.proofs.Poly.{over, poly}
use Rattle.surface.specs.Sizes.{ValueSize}
use Rattle.surface.proofs.Formulas.{inner_value}
use Rattle.faces.proofs.Sums.{Sum, arg, ◌⊕◌, ◌⊖◌, ◌⊗◌, SumHeld, holds, small_answers}
use Rattle.faces.proofs.formulas.inner.Goals as goal

module _ (c : goal.Start) where
  abbrev sum : Sum
  sum = 3 ⊗ (arg c.args.x ⊕ arg c.args.y) ⊕ arg c.args.v ⊖ arg c.args.w

  fine : SumHeld w32 (2 ^ 25) sum
  fine = holds w32 (2 ^ 25) sum (omega arith) (omega arith)

same : (x y v w : ℤ) → pos 3 *ℤ (x +ℤ y) +ℤ v -ℤ w ≡ pos 3 *ℤ x +ℤ pos 3 *ℤ y +ℤ v -ℤ w
same = over 4 _ λ ρ. simp (poly, ρ) (omega arith)

pub round_small-requires : goal.round_small-requires
round_small-requires c = (lt_z_yes tt, le_z_yes tt, omega (arith, (fine c).sized))

pub returns : goal.returns
returns c =
    let q = c.round_small.result in
    small_answers (2 ^ 25) _ q ValueSize (search rules) (sum (search)) (pos 6) (fine (search)) (same c.args.x c.args.y c.args.v c.args.w) tt (inner_value c.args.x c.args.y c.args.v c.args.w q c.requires) c.round_small.ensures

pub overflow_sub-x : goal.overflow_sub-x
overflow_sub-x c = search (fine c)
