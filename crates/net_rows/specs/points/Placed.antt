-- Where the points of a quad-net stand in its lane: every fourth number.
use Rattle.std.specs.Prelude.{◌≡◌, List, ℕ, ◌+◌, ◌*◌, ◌<◌, length, get_or, ℤ, pos}
use Rattle.paper.specs.Numbers.{rounded}
use Rattle.paper.specs.Refined.{RefinedMesh}
use Rattle.paper.specs.Net.{net, net_points}
use Rattle.net_rows.specs.declared.sides.NetSides.{NetSides}
use Rattle.net_rows.specs.sides.Values.{FourSides}

-- every fourth number from `from` on, as many as there are points, is a point's; the others are as before
pub record PointsPlaced (old new : List ℤ) (from : ℕ) (points : List ℤ) : Type 0 where
  pub same : length new ≡ length old
  pub points_are : (p : ℕ) → p < length points → get_or new (from + 4 * p) (pos 0) ≡ get_or points p (pos 0)
  pub others : (i : ℕ) → ((p : ℕ) → p < length points → i ≡ from + 4 * p → ⊥) → get_or new i (pos 0) ≡ get_or old i (pos 0)

-- lane k has the points of whichever net has these sides
abbrev pub Lane : NetSides → ℕ → List ℤ → Type 0
Lane n k lanes =
    (K : RefinedMesh rounded) (c : ℕ) → FourSides K c n → (p : ℕ) → p < net_points → get_or lanes (k + 4 * p) (pos 0) ≡ get_or (net K c) p (pos 0)

pub record LaneLaid (n : NetSides) (k : ℕ) (old new : List ℤ) : Type 0 where
  pub same : length new ≡ length old
  pub laid : Lane n k new
  pub others : (j p : ℕ) → j < 4 → (j ≡ k → ⊥) → get_or new (j + 4 * p) (pos 0) ≡ get_or old (j + 4 * p) (pos 0)
