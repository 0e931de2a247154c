-- `rounding::whole_part` meets its contract: half of u is no more than the quotient, and the other half is taken off with the sign.
use mathlib.Core.Path.{refl}
use Prim.Native.Nat.{◌+◌, ◌-◌, ◌/◌, ◌^◌, ◌<◌, ◌≤◌}
use lib.Dec.{lit<}
use lib.IntN.{pos, nat_abs, ◌-ℤ◌}
use mir.Syntax.{w32}
use mir.Val.{SFits}
use mir.Facts.{to_z-of_z, to_z_pos}
use Rattle.numbers.proofs.Machine.{abs_fits}
use Rattle.numbers.proofs.Small.{whole_size, whole_is, whole_fits}
use Rattle.numbers.proofs.rounding.whole_part.Goals as goal

module _ (c : goal.Start) where
  sizes : (c.args.p / 2 ^ 30 - c.args.u / 2 < 2 ^ 31) × (c.args.u - c.args.u / 2 < 2 ^ 31)
  sizes = whole_size c.args.p c.args.u c.requires.0 c.requires.2 c.requires.3

  fine : (nat_abs (pos (c.args.p / 2 ^ 30) -ℤ pos c.args.u) ≤ 2 ^ 30) × (nat_abs (pos (c.args.p / 2 ^ 30) -ℤ pos c.args.u -ℤ c.args.d) ≤ 2
      ^ 30 + 2 ^ 29)
  fine = whole_fits c.args.p c.args.u c.args.d c.requires.0 c.requires.2 c.requires.3 c.requires.1

  first : SFits w32 (pos (c.args.p / 2 ^ 30) -ℤ pos c.args.u)
  first = abs_fits w32 _ (2 ^ 30) fine.0 (lit< tt)

  last : SFits w32 (pos (c.args.p / 2 ^ 30) -ℤ pos c.args.u -ℤ c.args.d)
  last = abs_fits w32 _ (2 ^ 30 + 2 ^ 29) fine.1 (lit< tt)

pub overflow_sub-result-2 : goal.overflow_sub-result-2
overflow_sub-result-2 c = rw (to_z_pos w32 (sizes c).0, to_z_pos w32 (sizes c).1, whole_is c.args.p c.args.u c.requires.2) (first c)

pub overflow_sub-result-3 : goal.overflow_sub-result-3
overflow_sub-result-3 c =
    rw (to_z_pos w32 (sizes c).0, to_z_pos w32 (sizes c).1, whole_is c.args.p c.args.u c.requires.2, to_z-of_z (first c), to_z-of_z c.ranges.d) (last c)

pub returns : goal.returns
returns c =
    rw (
      to_z_pos w32 (sizes c).0,
      to_z_pos w32 (sizes c).1,
      whole_is c.args.p c.args.u c.requires.2,
      to_z-of_z (first c),
      to_z-of_z c.ranges.d,
      to_z-of_z (last c),
    ) (refl, (fine c).1)
