-- No division of the exact reading rounds: a quotient, times its divisor, is what was divided.
use mathlib.Core.Path.{◌≡◌}
use native.Mathlib.Omega.{arith}
use lib.IntN.{ℤ, pos, ◌*ℤ◌}
use Rattle.paper.specs.Claims.{NoRounding}
use Rattle.numbers.proofs.Poly.{over, poly}

pub no_rounding : NoRounding
no_rounding q d some = turn (pos d) q.top (pos q.bottom)
  where
    turn : (d n D : ℤ) → d *ℤ n *ℤ D ≡ n *ℤ (D *ℤ d)
    turn = over 3 _ λ ρ. simp poly (omega arith)
