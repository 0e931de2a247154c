-- `border_report::misses::lean` meets its contract: 2^30 + c is at most 2^31, and the two values differ by at most 2^26.
use mathlib.Core.Path.{refl}
use Prim.Native.Nat.{◌^◌, ◌≤◌}
use native.Mathlib.Omega.{arith}
use borrow.Author.Rules.{rules}
use lib.IntN.{ℤ, nat_abs, ◌+ℤ◌, ◌-ℤ◌, ◌*ℤ◌}
use mir.Syntax.{w64}
use mir.Val.{SFits}
use mir.Facts.{to_z-of_z}
use Rattle.numbers.proofs.Poly.{over, poly}
use Rattle.numbers.proofs.Laws.{abs_mul_le}
use Rattle.numbers.proofs.Machine.{abs_fits}
use Rattle.paper.specs.Borders.{one}
use Rattle.surface.specs.Sizes.{ValueSize, CosineSize}
use lib.Dec.{lit<}
use Rattle.border_report.proofs.misses.lean.Goals as goal

abbrev Fine : ℤ → ℤ → ℤ → Type 0
Fine c u v = SFits w64 (one +ℤ c) × SFits w64 (v -ℤ u) × (nat_abs (one +ℤ c) ≤ 2 ^ 31) × (nat_abs (v -ℤ u) ≤ 2 ^ 26)

fits : (c u v : ℤ) → CosineSize c × ValueSize u × ValueSize v → Fine c u v
fits = over 3 _ λ ρ. simp (poly, ρ) (omega arith)

product : (c u v : ℤ) → CosineSize c × ValueSize u × ValueSize v → nat_abs ((one +ℤ c) *ℤ (v -ℤ u)) ≤ 2 ^ 57
product c u v h = let k = fits c u v h in abs_mul_le (one +ℤ c) (v -ℤ u) (2 ^ 31) (2 ^ 26) k.2 k.3

product_fits : (c u v : ℤ) → CosineSize c × ValueSize u × ValueSize v → SFits w64 ((one +ℤ c) *ℤ (v -ℤ u))
product_fits c u v h = abs_fits w64 _ (2 ^ 57) (product c u v h) (lit< tt)

pub overflow_mul-result : goal.overflow_mul-result
overflow_mul-result c = let k = fits c.args.c c.args.u c.args.v c.requires in simp (to_z-of_z, c.ranges.c, c.ranges.u, c.ranges.v, k.0, k.1) (product_fits c.args.c c.args.u c.args.v c.requires)

pub returns : goal.returns
returns c = let k = fits c.args.c c.args.u c.args.v c.requires in simp (to_z-of_z, c.ranges.c, c.ranges.u, c.ranges.v, k.0, k.1, product_fits c.args.c c.args.u c.args.v c.requires) (refl, product c.args.c c.args.u c.args.v c.requires)

pub overflow_add-result : goal.overflow_add-result
overflow_add-result c = search (rules, (fits c.args.c c.args.u c.args.v c.requires))

pub overflow_sub-result : goal.overflow_sub-result
overflow_sub-result c = search (rules, (fits c.args.c c.args.u c.args.v c.requires))
