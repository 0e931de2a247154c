-- `rounding::floor_div` meets its contract, by `divided`.
use mathlib.Core.Path.{refl}
use Prim.Native.Nat.{◌^◌}
use borrow.Author.Rules.{rules}
use lib.IntN.{pos}
use lib.Signed.{quot_z}
use mir.Syntax.{w64}
use mir.Facts.{to_z-of_z}
use Rattle.numbers.proofs.Lift.{Divided, divided}
use Rattle.numbers.proofs.rounding.floor_div.Goals as goal

known : (c : goal.Start) → Divided w64 c.args.t c.args.d (quot_z (pos (2 ^ 62)) c.args.d)
known c = divided w64 tt (2 ^ 62) refl c.args.t c.args.d c.requires

pub overflow_cast-result : goal.overflow_cast-result
overflow_cast-result c = let k = known c in simp (to_z-of_z, c.ranges.t, c.ranges.d, k.lift, k.product, k.sum) k.dividend

pub overflow_cast-result-3 : goal.overflow_cast-result-3
overflow_cast-result-3 c = let k = known c in simp (to_z-of_z, c.ranges.t, c.ranges.d, k.lift, k.product, k.sum) k.quotient

pub overflow_sub-result : goal.overflow_sub-result
overflow_sub-result c = let k = known c in simp (to_z-of_z, c.ranges.t, c.ranges.d, k.lift, k.product, k.sum, k.read) k.result

pub returns : goal.returns
returns c = let k = known c in simp (to_z-of_z, c.ranges.t, c.ranges.d, k.lift, k.product, k.sum, k.read, k.result) k.value

pub nonzero_div-l : goal.nonzero_div-l
nonzero_div-l c = search (rules, known c)

pub overflow_mul-result : goal.overflow_mul-result
overflow_mul-result c = search (rules, known c)

pub overflow_add-result : goal.overflow_add-result
overflow_add-result c = search (rules, known c)

pub overflow_cast-result-2 : goal.overflow_cast-result-2
overflow_cast-result-2 c = search (rules, known c)

pub nonzero_div-result : goal.nonzero_div-result
nonzero_div-result c = search (rules, known c)
