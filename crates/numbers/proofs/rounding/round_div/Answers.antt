-- `rounding::round_div` meets its contract, by `round_floor`: the sums fit, whatever the sign is.
use mathlib.Core.Path.{◌≡◌, sym, ◌∙◌}
use Prim.Native.Nat.{◌^◌, ◌≤◌}
use native.Mathlib.Omega.{arith}
use borrow.Author.Rules.{rules}
use lib.IntN.{ℤ, pos, nat_abs, ◌+ℤ◌, ◌*ℤ◌}
use lib.Signed.{◌≤ℤ◌, ◌<ℤ◌}
use mir.Syntax.{w64}
use mir.Val.{SFits}
use mir.Facts.{to_z-of_z}
use Rattle.numbers.proofs.Poly.{over, poly}
use Rattle.numbers.specs.Lift.{Liftable}
use Rattle.numbers.specs.Sign.{sign}
use Rattle.numbers.proofs.Nearest.{IsSign, sign_bounds, sign_fits, round_floor}
use Rattle.numbers.proofs.rounding.round_div.Goals as goal

abbrev AllFit : ℤ → ℤ → ℤ → Type 0
AllFit n d s =
    SFits w64 (pos 2 *ℤ n) × SFits w64 (pos 2 *ℤ n +ℤ d) × SFits w64 (pos 2 *ℤ n +ℤ d +ℤ s) × SFits w64 (pos 2 *ℤ d) × Liftable (pos (2 ^ 62))
    (pos 2 *ℤ n +ℤ d +ℤ s) (pos 2 *ℤ d)

all_fit : (n d s : ℤ) → (pos 0 <ℤ d) × ((d ≤ℤ pos (2 ^ 16)) × (nat_abs n ≤ 2 ^ 43)) → IsSign s → AllFit n d s
all_fit = over 3 _ λ ρ. simp (poly, ρ) (omega arith)

known : (c : goal.Start) → AllFit c.args.n c.args.d (sign c.args.n)
known c = all_fit c.args.n c.args.d (sign c.args.n) (c.requires.positive, (c.requires.divisor, c.requires.dividend)) (sign_bounds c.args.n)

module _ (c : goal.After-sign) where
  is_sign : c.sign.result ≡ sign c.args.n
  is_sign = simp (to_z-of_z, c.ranges.n) at c.sign.ensures

  fits : SFits w64 (sign c.args.n)
  fits = sign_fits w64 c.args.n

pub overflow_add-n-2 : goal.overflow_add-n-2
overflow_add-n-2 c =
    let s = c in
    let k = known (search) in
    simp (to_z-of_z, s.ranges.n, s.ranges.d, fits c, is_sign c, k.0, k.1) k.2

pub floor_div-requires : goal.floor_div-requires
floor_div-requires c =
    let s = c in
    let k = known (search) in
    simp (to_z-of_z, s.ranges.n, s.ranges.d, fits c, is_sign c, k.0, k.1, k.2, k.3) k.4

pub returns : goal.returns
returns c =
    let s = c in
    let k = known (search) in
    let f : SFits w64 c.floor_div.result = search rules in
    rw (to_z-of_z f)
    (simp (to_z-of_z, s.ranges.n, s.ranges.d, fits (search), is_sign (search), k.0, k.1, k.2, k.3) at c.floor_div.ensures
    ∙ sym (round_floor s.args.n s.args.d s.requires.positive))

pub overflow_mul-n : goal.overflow_mul-n
overflow_mul-n c = search (rules, known c)

pub overflow_add-n : goal.overflow_add-n
overflow_add-n c = search (rules, known c)

pub overflow_mul-d : goal.overflow_mul-d
overflow_mul-d c = search (rules, known (search))
