-- L10: how far what building writes is from the true surface, which is the same construction without rounding.
use Rattle.std.specs.Prelude.{◌≡◌, ℕ, ◌*◌, ◌<◌, ◌≤◌, get_or, ℤ, pos, ◌-ℤ◌, ◌*ℤ◌, nat_abs}
use Rattle.paper.specs.Mesh.{Mesh}
use Rattle.paper.specs.Numbers.{Fraction, exact}
use Rattle.paper.specs.Refined.{refined_of}
use Rattle.paper.specs.Net.{net, net_points}
use Rattle.paper.specs.Borders.{Output, Holds, written}

-- ---- the true surface: point k of corner c on an axis, in ticks
unfoldable pub true_point : Mesh → ℕ → ℕ → ℕ → Fraction
true_point M axis c k = get_or (net (refined_of exact M axis) c) k (exact.whole (pos 0))

-- two fractions of the same value
abbrev pub Same : Fraction → Fraction → Type 0
Same q r = q.top *ℤ pos r.bottom ≡ r.top *ℤ pos q.bottom

-- x is off from q by at most t: |x - q| ≤ t, times the bottom of q
pub record OffAtMost (t : ℕ) (x : ℤ) (q : Fraction) : Type 0 where
  pub proper : 0 < q.bottom
  pub off : nat_abs (x *ℤ pos q.bottom -ℤ q.top) ≤ t * q.bottom

-- 5 ticks
abbrev pub most_off : ℕ
most_off = 5

-- every point of every corner in the range of an output, on every axis
abbrev pub Accurate : Mesh → Output → Type 0
Accurate M O =
    (c : ℕ) → Holds O c → (k : ℕ) → k < net_points → (axis : ℕ) → axis < 3
    → OffAtMost most_off (written O axis c k) (true_point M axis c k)
