-- All that the argument uses of rounding.
use Rattle.std.specs.Prelude.{ℤ, pos, ◌-ℤ◌, ◌*ℤ◌, neg_ℤ, ◌≤ℤ◌}

-- q is off from n / d by at most half: twice the difference, times d, lies between -d and d
abbrev pub twice_off : ℤ → ℤ
twice_off d = d

abbrev pub OffByHalf : ℤ → ℤ → ℤ → Type 0
OffByHalf n d q = (neg_ℤ (twice_off d) ≤ℤ (pos 2 *ℤ (d *ℤ q -ℤ n))) × ((pos 2 *ℤ (d *ℤ q -ℤ n)) ≤ℤ twice_off d)
