-- `rounding::raised` meets its contract: the sums fit, whatever the tie is.
use mathlib.Core.Path.{◌≡◌}
use Prim.Native.Nat.{◌*◌, ◌/◌, ◌%◌, ◌^◌, ◌≤◌}
use native.Mathlib.Omega.{arith}
use lib.Dec.{lit<}
use lib.IntN.{ℤ, pos, nat_abs, ◌+ℤ◌}
use lib.Signed.{quot_z, rem_z}
use mir.Syntax.{w32}
use mir.Val.{SFits}
use mir.Facts.{to_z-of_z}
use Rattle.numbers.proofs.Poly.{over, poly}
use Rattle.numbers.specs.Sign.{tie as tied}
use Rattle.numbers.proofs.Machine.{half_is}
use Rattle.numbers.proofs.Nearest.{IsSign, tie_bounds}
use Rattle.numbers.proofs.rounding.raised.Goals as goal

sums : (n h s : ℤ) → nat_abs n ≤ 7 * 2 ^ 27 → nat_abs h ≤ 24 → IsSign s → SFits w32 h × SFits w32 (n +ℤ h) × SFits w32 (n +ℤ h +ℤ s) × SFits w32 s
sums = over 3 _ λ ρ. simp (poly, ρ) (omega arith)

module _ (c : goal.Start) where
  abbrev h : ℤ
  h = pos (nat_abs c.args.d / 2)

  half : (quot_z c.args.d (pos 2) ≡ h) × (rem_z c.args.d (pos 2) ≡ pos (nat_abs c.args.d % 2)) × (nat_abs c.args.d / 2 ≤ 24)
  half = half_is c.args.d c.requires.0 c.requires.1

  fine : let t = tied (nat_abs c.args.d % 2) c.args.n in SFits w32 h × SFits w32 (c.args.n +ℤ h) × SFits w32 (c.args.n +ℤ h +ℤ t) × SFits w32 t
  fine = sums c.args.n h _ c.requires.2 half.2 (tie_bounds (nat_abs c.args.d % 2) c.args.n)

  rest : SFits w32 (pos (nat_abs c.args.d % 2))
  rest = record { sfits = omega arith }

pub nonzero_div-result : goal.nonzero_div-result
nonzero_div-result c = simp (to_z-of_z, c.ranges.d, (half c).0) (lit< tt, (fine c).0)

is-tie : (c : goal.After-tie) → c.tie.result ≡ tied (nat_abs c.args.d % 2) c.args.n
is-tie c = let s = c in simp (to_z-of_z, s.ranges.d, s.ranges.n, (half search).1, rest search) at c.tie.ensures

pub overflow_add-result-2 : goal.overflow_add-result-2
overflow_add-result-2 c = let s = c in simp (to_z-of_z, is-tie c, (fine search).3, s.ranges.d, s.ranges.n, (half search).0, (fine search).0, (fine search).1) (fine search).2

pub returns : goal.returns
returns c = let s = c in simp (to_z-of_z, is-tie c, (fine search).3, s.ranges.d, s.ranges.n, (half search).0, (fine search).0, (fine search).1, (fine search).2)

pub overflow_add-result : goal.overflow_add-result
overflow_add-result c = simp (to_z-of_z, c.ranges.d, c.ranges.n, (half c).0, (fine c).0) (fine c).1

pub nonzero_rem-d : goal.nonzero_rem-d
nonzero_rem-d = nonzero_div-result

pub overflow_cast-d : goal.overflow_cast-d
overflow_cast-d c = simp (to_z-of_z, c.ranges.d, (half c).1, rest c) (tt, record { fits = omega arith })
