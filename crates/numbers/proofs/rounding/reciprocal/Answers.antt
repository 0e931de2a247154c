-- `rounding::reciprocal` meets its contract: 2^37 - 1 by d, rounded down, is less than 2^37 / d by at most one.
use Prim.Native.Nat.{◌+◌, ◌-◌, ◌/◌, ◌^◌, ◌<◌, ◌≤◌}
use native.Mathlib.Nat.{div-add-mod, mod-lt, div-le_self}
use native.Mathlib.Omega.{arith}
use lib.Dec.{T}
use lib.IntN.{ℤ, pos, negsuc, nat_abs}
use lib.Signed.{◌≤ℤ◌, non_neg}
use mir.Facts.{to_z-of_z}
use Rattle.numbers.specs.Units.{Reciprocal}
use Rattle.numbers.proofs.Diff.{diff}
use Rattle.numbers.proofs.rounding.reciprocal.Goals as goal

known : (d : ℤ) → (pos 1 ≤ℤ d) × (d ≤ℤ pos 48) → T (non_neg d) × (0 < nat_abs d) × (nat_abs d ≤ 48) × Reciprocal d ((2 ^ 37 - 1) / nat_abs d + 1)
known (pos m) ok =
    let a : 0 < m = omega (arith, simp diff at ok.0) in
    let b : m ≤ 48 = omega (arith, simp diff at ok.1) in
    let e = div-add-mod (2 ^ 37 - 1) m in
    let l = mod-lt (2 ^ 37 - 1) a in
    (tt, a, b, (simp diff (omega arith), simp diff (omega arith)))
known (negsuc m) ok = absurd ok.0.le

at_call : (c : goal.Start) → T (non_neg c.args.d) × (0 < nat_abs c.args.d) × (nat_abs c.args.d ≤ 48) × Reciprocal c.args.d
    ((2 ^ 37 - 1) / nat_abs c.args.d + 1)
at_call c = known c.args.d c.requires

pub overflow_cast-result : goal.overflow_cast-result
overflow_cast-result c = let k = at_call c in rw (to_z-of_z c.ranges.d) (k.0, record { fits = omega (arith, k.2) })

pub nonzero_div-result : goal.nonzero_div-result
nonzero_div-result c = rw (to_z-of_z c.ranges.d) (at_call c).1

pub overflow_add-result : goal.overflow_add-result
overflow_add-result c = rw (to_z-of_z c.ranges.d) (record { fits = omega (arith, div-le_self (2 ^ 37 - 1) (nat_abs c.args.d)) })

pub returns : goal.returns
returns c = rw (to_z-of_z c.ranges.d) (at_call c).3
