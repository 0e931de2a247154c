-- `rounding::floor_by` meets its contract, by `by_product`.
use borrow.Author.Rules.{rules}
use mir.Facts.{to_z-of_z}
use Rattle.numbers.proofs.Units.{Product, by_product}
use Rattle.numbers.proofs.rounding.floor_by.Goals as goal

known : (c : goal.Start) → Product c.args.t c.args.d c.args.f
known c = by_product c.args.t c.args.d c.args.f c.requires.0 c.requires.1

pub overflow_sub-result : goal.overflow_sub-result
overflow_sub-result c = let k = known c in simp (to_z-of_z, c.ranges.t, c.ranges.d, k.product, k.sum, k.read) k.result

pub returns : goal.returns
returns c = let k = known c in simp (to_z-of_z, c.ranges.t, c.ranges.d, k.product, k.sum, k.read, k.result) k.value

pub overflow_mul-result : goal.overflow_mul-result
overflow_mul-result c = search (rules, known c)

pub overflow_add-result : goal.overflow_add-result
overflow_add-result c = search (rules, known c)

pub overflow_cast-result : goal.overflow_cast-result
overflow_cast-result c = let k = known c in simp (to_z-of_z, c.ranges.t, c.ranges.d, k.product, k.sum) k.dividend

pub overflow_mul-result-2 : goal.overflow_mul-result-2
overflow_mul-result-2 c = let k = known c in simp (to_z-of_z, c.ranges.t, c.ranges.d, k.product, k.sum) k.whole

pub overflow_cast-result-2 : goal.overflow_cast-result-2
overflow_cast-result-2 c = let k = known c in simp (to_z-of_z, c.ranges.t, c.ranges.d, k.product, k.sum) k.quotient
