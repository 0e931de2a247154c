-- What the laws of rounding say of a quotient.
use Rattle.std.specs.Prelude.{ℤ, pos, neg_ℤ, ◌-ℤ◌, ◌*ℤ◌, ◌≤ℤ◌}

-- q is off from n / d by at most half: |2 (d·q - n)| ≤ d
abbrev pub WithinHalf : ℤ → ℤ → ℤ → Type 0
WithinHalf n d q = (neg_ℤ d ≤ℤ (pos 2 *ℤ (d *ℤ q -ℤ n))) × ((pos 2 *ℤ (d *ℤ q -ℤ n)) ≤ℤ d)
