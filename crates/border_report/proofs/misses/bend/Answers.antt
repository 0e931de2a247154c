-- `border_report::misses::bend` meets its contract: points below 2^26 keep every sum and the product within 64 bits.
use mathlib.Core.Path.{refl}
use Prim.Native.Nat.{◌^◌, ◌≤◌}
use native.Mathlib.Omega.{arith}
use borrow.Author.Rules.{rules}
use lib.IntN.{ℤ, pos, nat_abs, ◌+ℤ◌, ◌-ℤ◌, ◌*ℤ◌}
use mir.Syntax.{w64}
use mir.Val.{SFits}
use mir.Facts.{to_z-of_z}
use Rattle.numbers.proofs.Poly.{over, poly}
use Rattle.paper.specs.Borders.{one}
use Rattle.surface.specs.Sizes.{WrittenSize}
use Rattle.border_report.proofs.misses.bend.Goals as goal

abbrev total : ℤ → ℤ → ℤ → ℤ
total b a o = pos 4 *ℤ one *ℤ (a +ℤ o -ℤ pos 2 *ℤ b)

abbrev Fine : ℤ → ℤ → ℤ → Type 0
Fine b a o =
    SFits w64 (a +ℤ o) × SFits w64 (pos 2 *ℤ b) × SFits w64 (a +ℤ o -ℤ pos 2 *ℤ b) × SFits w64 (total b a o) × (nat_abs (total b a o) ≤ 2 ^ 60)

fits : (b a o : ℤ) → WrittenSize b × WrittenSize a × WrittenSize o → Fine b a o
fits = over 3 _ λ ρ. simp (poly, ρ) (omega arith)

pub returns : goal.returns
returns c = let k = fits c.args.b c.args.a c.args.other c.requires in simp (to_z-of_z, c.ranges.b, c.ranges.a, c.ranges.other, k.0, k.1, k.2, k.3) (refl, k.4)

pub overflow_add-result : goal.overflow_add-result
overflow_add-result c = search (rules, (fits c.args.b c.args.a c.args.other c.requires))

pub overflow_mul-result : goal.overflow_mul-result
overflow_mul-result c = search (rules, (fits c.args.b c.args.a c.args.other c.requires))

pub overflow_sub-result : goal.overflow_sub-result
overflow_sub-result c = search (rules, (fits c.args.b c.args.a c.args.other c.requires))

pub overflow_mul-result-2 : goal.overflow_mul-result-2
overflow_mul-result-2 c = search (rules, (fits c.args.b c.args.a c.args.other c.requires))
