-- `faces::formulas::third` meets its contract: the sums fit, and the rounded quotient is bounded by its terms.
use mathlib.Core.Path.{◌≡◌}
use Prim.Native.Nat.{◌^◌}
use native.Mathlib.Omega.{arith}
use borrow.Author.Rules.{rules}
use lib.IntN.{ℤ, pos, ◌+ℤ◌, ◌-ℤ◌, ◌*ℤ◌}
use mir.Syntax.{w32}
use mir.Facts.{to_z-of_z}
use Rattle.numbers.proofs.Poly.{over, poly}
use Rattle.paper.specs.Cosines.{unit}
use Rattle.surface.specs.Sizes.{WrittenSize}
use Rattle.surface.proofs.Formulas.{third_written}
use Rattle.faces.proofs.Sums.{Sum, arg, ◌⊕◌, ◌⊖◌, ◌⊗◌, SumHeld, holds, eighth_answers}
use Rattle.faces.proofs.formulas.third.Goals as goal
use Rattle.faces.proofs.formulas.third.Goals.{Start}

module _ (c : Start) where
  abbrev turned : Sum
  turned = arg c.args.t ⊖ arg c.args.y

  abbrev plain : Sum
  plain = 3 ⊗ arg c.args.y ⊕ arg c.args.s ⊕ 4 ⊗ arg c.args.n

  fine : SumHeld w32 (2 ^ 25) turned × SumHeld w32 (2 ^ 25) plain
  fine = (holds w32 (2 ^ 25) turned (omega arith) (omega arith), holds w32 (2 ^ 25) plain (omega arith) (omega arith))

same : (a c t y s n : ℤ) → a *ℤ (pos 3 *ℤ y +ℤ s +ℤ pos 4 *ℤ n) +ℤ c *ℤ (t -ℤ y) ≡ (pos 3 *ℤ a -ℤ c) *ℤ y +ℤ c *ℤ t +ℤ pos 4 *ℤ a *ℤ n +ℤ a *ℤ s
same = over 6 _ λ ρ. simp (poly, ρ) (omega arith)

pub returns : goal.returns
returns c =
    let q = c.round_eighth.result in
    eighth_answers (2 ^ 25) _ q WrittenSize (search rules) (turned (search)) (plain (search)) c.args.c _ (fine (search)).0 (fine (search)).1 (to_z-of_z c.ranges.c)
    (same (pos unit) c.args.c c.args.t c.args.y c.args.s c.args.n) (third_written c.args.c c.args.t c.args.y c.args.s c.args.n q c.requires) c.round_eighth.ensures
