-- The numbers of quad-nets in the output.
use Rattle.std.specs.Prelude.{◌≡◌, List, ℕ, ◌+◌, ◌*◌, ◌≤◌, ◌<◌, length, get_or, ℤ, pos}
use Rattle.paper.specs.Numbers.{rounded}
use Rattle.paper.specs.Refined.{RefinedMesh}
use Rattle.paper.specs.Net.{net, net_points}
use Rattle.paper.specs.Calls.{per_corner}

-- the points of the nets of `run` corners from c on, on the three axes, from the place `at` of the output on
pub record RunPut (K : ℕ → RefinedMesh rounded) (c run at : ℕ) (old new : List ℤ) : Type 0 where
  pub same : length new ≡ length old
  pub points_are : (r : ℕ) → r < run → (a p : ℕ) → a < 3 → p < net_points
      → get_or new (at + per_corner * r + 3 * p + a) (pos 0) ≡ get_or (net (K a) (c + r)) p (pos 0)
  pub before : (i : ℕ) → i < at → get_or new i (pos 0) ≡ get_or old i (pos 0)
  pub after : (i : ℕ) → at + per_corner * run ≤ i → get_or new i (pos 0) ≡ get_or old i (pos 0)
