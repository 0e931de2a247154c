-- `rounding::small_sign` meets its contract: of a number of 32 bits a shift by 31 leaves the sign.
use mathlib.Core.Path.{refl}
use mir.Syntax.{w32}
use mir.Facts.{to_z-of_z}
use Rattle.numbers.proofs.Nearest.{sign_fits, shift_sign}
use Rattle.numbers.proofs.rounding.small_sign.Goals as goal

pub returns : goal.returns
returns c = rw (to_z-of_z c.ranges.n, shift_sign w32 c.args.n c.ranges.n, to_z-of_z (sign_fits w32 c.args.n)) refl
