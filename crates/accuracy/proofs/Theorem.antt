-- L10: every number that building writes for an accepted mesh is within 5 ticks of the true surface.
use mathlib.Core.Bool.{Bool}
use Prim.Native.Nat.{ℕ, ◌*◌, ◌<◌, ◌≤◌}
use native.Mathlib.Nat.{mul-le-mul_right}
use native.Mathlib.Omega.{arith}
use lib.Dec.{leb, leb→le}
use lib.ListN.{get_or}
use lib.IntN.{ℤ, pos, ◌-ℤ◌, ◌*ℤ◌, nat_abs}
use Rattle.paper.specs.Mesh.{Mesh, corner_count}
use Rattle.paper.specs.Faults.{Accepted}
use Rattle.paper.specs.Numbers.{rounded, Fraction, exact}
use Rattle.paper.specs.Refined.{refined_point, corners_of, refined_of}
use Rattle.paper.specs.Net.{net, net_points}
use Rattle.paper.specs.Accuracy.{true_point, OffAtMost, most_off}
use Rattle.paper.specs.Claims.{Accuracy}
use Rattle.paper.proofs.Below.{below_at}
use Rattle.numbers.proofs.Diff.{as_diff, diff}
use Rattle.mesh.proofs.Theorems.{manifold}
use Rattle.surface.proofs.Within.{Within}
use Rattle.surface.proofs.Hull.{corners_sound}
use Rattle.borders.proofs.Written.{accepted, corner_of_lem, written_is}
use Rattle.accuracy.specs.Bounds.{bounds}
use Rattle.accuracy.proofs.Close.{Close, close_whole, close_over}
use Rattle.accuracy.proofs.Net.{all_at, all_close}

-- ---- of an accepted mesh
-- a refined point is one rounding, whatever it is a mean of
refined_close : (M : Mesh) → Accepted M → (axis c : ℕ) → c < corner_count M → Close 50 (refined_point rounded M axis c) (refined_point exact M axis c)
unfolding refined_point
refined_close M a axis c here = close_over _ 50 (omega (arith, (manifold M a c here).sides_from_lem)) (omega arith) (close_whole _)

-- every point is as near as its kind's bound says
pub net_close : (M : Mesh) → Accepted M → (axis c : ℕ) → c < corner_count M → (k : ℕ)
    → Close (get_or bounds k 0) (get_or (net (refined_of rounded M axis) c) k (pos 0)) (true_point M axis c k)
unfolding true_point
net_close M a axis c here k =
    all_at bounds (net (refined_of rounded M axis) c) (net (refined_of exact M axis) c)
    (all_close (corners_of M) (corners_sound M a) (refined_point rounded M axis) (refined_point exact M axis) (refined_close M a axis) c here) k

-- ---- no bound is above 5 ticks
bound_test : ℕ → Bool
bound_test k = leb (get_or bounds k 0) (100 * most_off)

bounded : (k : ℕ) → k < net_points → get_or bounds k 0 ≤ 100 * most_off
unfolding bounds bound_test
bounded k inner = leb→le _ _ (below_at bound_test net_points tt k inner)

in_ticks_lem : (e : ℕ) (x : ℤ) (q : Fraction) → Close e x q → e ≤ 100 * most_off → OffAtMost most_off x q
in_ticks_lem e x q h l = record { proper = h.proper; off = ticks x q.top q.bottom (mul-le-mul_right q.bottom l) h.off }
  where
    ticks : (x n : ℤ) (d : ℕ) → e * d ≤ 100 * most_off * d → Within (pos 100 *ℤ (pos d *ℤ x -ℤ n)) (pos e *ℤ pos d) → nat_abs (x *ℤ pos d -ℤ n) ≤ most_off * d
    ticks x n d l h =
        as_diff x λ a b ex. as_diff n λ f g en. let k = simp (diff, ex, en) at h in simp (diff, ex, en) (omega arith)

-- ---- L10
pub accuracy : Accuracy
accuracy M O w c held k inner axis small =
    rw (written_is M O w c held axis small k inner)
    (in_ticks_lem (get_or bounds k 0) _ _ (net_close M (accepted M O w) axis c (corner_of_lem M O w c held) k) (bounded k inner))
