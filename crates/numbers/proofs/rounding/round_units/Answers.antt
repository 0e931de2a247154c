-- `rounding::round_units` meets its contract, by `units_is`.
use mathlib.Core.Path.{◌≡◌, ◌∙◌}
use Prim.Native.Nat.{◌^◌}
use borrow.Author.Rules.{rules}
use lib.IntN.{ℤ, pos}
use lib.Signed.{shr_z, lt_z_yes}
use mir.Syntax.{w32, w64}
use mir.Val.{SFits}
use mir.Facts.{to_z-of_z}
use Rattle.paper.specs.Numbers.{floor}
use Rattle.numbers.specs.Sign.{sign}
use Rattle.numbers.proofs.Floor.{floor_is}
use Rattle.numbers.proofs.Nearest.{sign_bounds, sign_fits, shift_floor}
use Rattle.numbers.proofs.Units.{halved, UnitsSized, units_sized, units_is}
use Rattle.numbers.proofs.rounding.round_units.Goals as goal

abbrev whole : ℤ → ℤ → ℤ
whole n d = halved n d (sign n)

known : (c : goal.Start) → UnitsSized c.args.n c.args.d (sign c.args.n) (floor (whole c.args.n c.args.d) (pos (2 ^ 30)))
known c = units_sized c.args.n c.args.d _ _ c.requires.0 (sign_bounds c.args.n) (floor_is _ (pos (2 ^ 30)) (lt_z_yes tt))

module _ (c : goal.After-sign) where
  is_sign : c.sign.result ≡ sign c.args.n
  is_sign = simp (to_z-of_z, c.ranges.n) at c.sign.ensures

  fits : SFits w64 (sign c.args.n)
  fits = sign_fits w64 c.args.n

  shifted : let s = c.args in shr_z (whole s.n s.d) (2 ^ 30) ≡ floor (whole s.n s.d) (pos (2 ^ 30))
  shifted = shift_floor _ _

pub overflow_add-n-2 : goal.overflow_add-n-2
overflow_add-n-2 c =
    let s = c in
    let k = known search in
    simp (to_z-of_z, s.ranges.n, s.ranges.d, fits c, is_sign c, k.0, k.1, k.2) k.3

pub overflow_cast-n : goal.overflow_cast-n
overflow_cast-n c =
    let s = c in
    let k = known search in
    simp (to_z-of_z, s.ranges.n, s.ranges.d, fits c, is_sign c, k.0, k.1, k.2, k.3, shifted c, k.4) k.5

pub floor_by-requires : goal.floor_by-requires
floor_by-requires c =
    let s = c in
    let k = known search in
    simp (to_z-of_z, s.ranges.n, s.ranges.d, fits c, is_sign c, k.0, k.1, k.2, k.3, shifted c, k.4, k.5) (k.6, s.requires.1)

pub returns : goal.returns
returns c =
    let a = c in
    let s = a in
    let k = known search in
    let f : SFits w32 c.floor_by.result = search rules in
    rw (to_z-of_z f)
    (simp (to_z-of_z, s.ranges.n, s.ranges.d, fits search, is_sign search, k.0, k.1, k.2, k.3, shifted search, k.4, k.5) at c.floor_by.ensures
    ∙ units_is s.args.n s.args.d s.requires.0)

pub overflow_cast-d : goal.overflow_cast-d
overflow_cast-d c = search (rules, known c)

pub overflow_mul-d : goal.overflow_mul-d
overflow_mul-d c = search (rules, known c)

pub overflow_add-n : goal.overflow_add-n
overflow_add-n c = search (rules, known c)
