-- `bernstein::quotient` meets its contract: each arm divides by the fourth power of its own key.
use mathlib.Core.Path.{◌≡◌, refl}
use Prim.Native.Nat.{◌^◌, ◌≤◌}
use native.Mathlib.Omega.{arith}
use borrow.Author.Rules.{rules}
use lib.IntN.{ℤ, nat_abs}
use mir.Syntax.{w64}
use mir.Val.{SFits}
use mir.Facts.{to_z-of_z}
use Rattle.bernstein.proofs.Laws.{bits, arm}
use Rattle.bernstein.proofs.quotient.Goals as goal

wide : {s : ℤ} → SFits w64 s → nat_abs s ≤ 2 ^ 43 → nat_abs (bits s) ≤ 2 ^ 43
wide f h = rw (to_z-of_z f) h

pub returns-in-1 : goal.returns-in-1
returns-in-1 c = arm _ _ _ _ 1 c.ranges.s (search rules) c.in-1.is refl c.round_div.ensures

pub returns-in-2 : goal.returns-in-2
returns-in-2 c = arm _ _ _ _ 2 c.ranges.s (search rules) c.in-2.is refl c.round_div-in-2.ensures

pub returns-in-3 : goal.returns-in-3
returns-in-3 c = arm _ _ _ _ 3 c.ranges.s (search rules) c.in-3.is refl c.round_div-in-3.ensures

pub returns-in-4 : goal.returns-in-4
returns-in-4 c = arm _ _ _ _ 4 c.ranges.s (search rules) c.in-4.is refl c.round_div-in-4.ensures

pub returns-in-5 : goal.returns-in-5
returns-in-5 c = arm _ _ _ _ 5 c.ranges.s (search rules) c.in-5.is refl c.round_div-in-5.ensures

pub returns-in-6 : goal.returns-in-6
returns-in-6 c = arm _ _ _ _ 6 c.ranges.s (search rules) c.in-6.is refl c.round_div-in-6.ensures

pub returns-in-7 : goal.returns-in-7
returns-in-7 c = arm _ _ _ _ 7 c.ranges.s (search rules) c.in-7.is refl c.round_div-in-7.ensures

pub returns-in-8 : goal.returns-in-8
returns-in-8 c = arm _ _ _ _ 8 c.ranges.s (search rules) c.in-8.is refl c.round_div-in-8.ensures

pub returns-in-9 : goal.returns-in-9
returns-in-9 c = arm _ _ _ _ 9 c.ranges.s (search rules) c.in-9.is refl c.round_div-in-9.ensures

pub returns-in-10 : goal.returns-in-10
returns-in-10 c = arm _ _ _ _ 10 c.ranges.s (search rules) c.in-10.is refl c.round_div-in-10.ensures

pub returns-in-11 : goal.returns-in-11
returns-in-11 c = arm _ _ _ _ 11 c.ranges.s (search rules) c.in-11.is refl c.round_div-in-11.ensures

pub returns-in-12 : goal.returns-in-12
returns-in-12 c = arm _ _ _ _ 12 c.ranges.s (search rules) c.in-12.is refl c.round_div-in-12.ensures

pub returns-in-13 : goal.returns-in-13
returns-in-13 c = arm _ _ _ _ 13 c.ranges.s (search rules) c.in-13.is refl c.round_div-in-13.ensures

pub returns-in-14 : goal.returns-in-14
returns-in-14 c = arm _ _ _ _ 14 c.ranges.s (search rules) c.in-14.is refl c.round_div-in-14.ensures

pub returns-in-15 : goal.returns-in-15
returns-in-15 c = arm _ _ _ _ 15 c.ranges.s (search rules) c.in-15.is refl c.round_div-in-15.ensures

pub returns-in_default : goal.returns-in_default
returns-in_default c =
    let e : c.args.n ≡ 16 = omega arith in
    arm _ _ _ _ 16 c.ranges.s (search rules) e refl c.round_div-in_default.ensures

pub round_div-requires : goal.round_div-requires
round_div-requires c = record { positive = search rules; divisor = search rules; dividend = wide c.ranges.s c.requires.2 }

pub round_div-requires-in-2 : goal.round_div-requires-in-2
round_div-requires-in-2 c = record { positive = search rules; divisor = search rules; dividend = wide c.ranges.s c.requires.2 }

pub round_div-requires-in-3 : goal.round_div-requires-in-3
round_div-requires-in-3 c = record { positive = search rules; divisor = search rules; dividend = wide c.ranges.s c.requires.2 }

pub round_div-requires-in-4 : goal.round_div-requires-in-4
round_div-requires-in-4 c = record { positive = search rules; divisor = search rules; dividend = wide c.ranges.s c.requires.2 }

pub round_div-requires-in-5 : goal.round_div-requires-in-5
round_div-requires-in-5 c = record { positive = search rules; divisor = search rules; dividend = wide c.ranges.s c.requires.2 }

pub round_div-requires-in-6 : goal.round_div-requires-in-6
round_div-requires-in-6 c = record { positive = search rules; divisor = search rules; dividend = wide c.ranges.s c.requires.2 }

pub round_div-requires-in-7 : goal.round_div-requires-in-7
round_div-requires-in-7 c = record { positive = search rules; divisor = search rules; dividend = wide c.ranges.s c.requires.2 }

pub round_div-requires-in-8 : goal.round_div-requires-in-8
round_div-requires-in-8 c = record { positive = search rules; divisor = search rules; dividend = wide c.ranges.s c.requires.2 }

pub round_div-requires-in-9 : goal.round_div-requires-in-9
round_div-requires-in-9 c = record { positive = search rules; divisor = search rules; dividend = wide c.ranges.s c.requires.2 }

pub round_div-requires-in-10 : goal.round_div-requires-in-10
round_div-requires-in-10 c = record { positive = search rules; divisor = search rules; dividend = wide c.ranges.s c.requires.2 }

pub round_div-requires-in-11 : goal.round_div-requires-in-11
round_div-requires-in-11 c = record { positive = search rules; divisor = search rules; dividend = wide c.ranges.s c.requires.2 }

pub round_div-requires-in-12 : goal.round_div-requires-in-12
round_div-requires-in-12 c = record { positive = search rules; divisor = search rules; dividend = wide c.ranges.s c.requires.2 }

pub round_div-requires-in-13 : goal.round_div-requires-in-13
round_div-requires-in-13 c = record { positive = search rules; divisor = search rules; dividend = wide c.ranges.s c.requires.2 }

pub round_div-requires-in-14 : goal.round_div-requires-in-14
round_div-requires-in-14 c = record { positive = search rules; divisor = search rules; dividend = wide c.ranges.s c.requires.2 }

pub round_div-requires-in-15 : goal.round_div-requires-in-15
round_div-requires-in-15 c = record { positive = search rules; divisor = search rules; dividend = wide c.ranges.s c.requires.2 }

pub round_div-requires-in_default : goal.round_div-requires-in_default
round_div-requires-in_default c = record { positive = search rules; divisor = search rules; dividend = wide c.ranges.s c.requires.2 }
