-- All that the argument for the four conditions uses of rounding.
use Rattle.std.specs.Prelude.{ℤ, pos, ◌-ℤ◌, ◌*ℤ◌, neg_ℤ, ◌≤ℤ◌}

-- q is off from n / d by at most half: twice the difference, times d, lies between -d and d
abbrev pub OffByHalf : ℤ → ℤ → ℤ → Type 0
OffByHalf n d q = (neg_ℤ d ≤ℤ (pos 2 *ℤ (d *ℤ q -ℤ n))) × ((pos 2 *ℤ (d *ℤ q -ℤ n)) ≤ℤ d)
