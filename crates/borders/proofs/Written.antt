-- What a call of building that is not refused tells: the mesh is accepted, its range lies within the corners,
-- and point k of corner c on an axis, read in the output, is that of the corner's net.
use mathlib.Core.Path.{◌≡◌, refl, ap, ◌∙◌}
use Prim.Native.Nat.{ℕ, ◌+◌, ◌-◌, ◌*◌, ◌/◌, ◌%◌, ◌≤◌, ◌<◌}
use native.Mathlib.Omega.{arith}
use lib.ListN.{get_or}
use lib.IntN.{pos}
use Rattle.paper.specs.Mesh.{Mesh, corner_count}
use Rattle.paper.specs.Faults.{Accepted}
use Rattle.paper.specs.Numbers.{rounded}
use Rattle.paper.specs.Refined.{refined_of}
use Rattle.paper.specs.Net.{net}
use Rattle.paper.specs.Calls.{per_corner, number_at}
use Rattle.paper.specs.Borders.{Output, Wrote, Holds, written}
use Rattle.surface.proofs.Call.{accepted as call-accepted, range as call-range, number_written}

-- ---- the place of a number tells its corner, its point and its axis
number_is : (M : Mesh) (first k p axis i : ℕ) → p < 41 → axis < 3 → i ≡ per_corner * k + 3 * p + axis
    → number_at rounded M first i ≡ get_or (net (refined_of rounded M axis) (first + k)) p (pos 0)
unfolding number_at
number_is M first k p axis i inner small e =
    let x : i % 3 ≡ axis = omega arith in
    let y : i / per_corner ≡ k = omega arith in
    let z : i % per_corner / 3 ≡ p = omega arith in
    rw (x, y, z)

module _ (M : Mesh) (O : Output) (w : Wrote M O) where
  pub accepted : Accepted M
  accepted = call-accepted M w.links O.first O.count w.old O.numbers w.call

  range : O.first + O.count ≤ corner_count M
  range = call-range M w.links O.first O.count w.old O.numbers w.call

  pub corner_of_lem : (c : ℕ) → Holds O c → c < corner_count M
  corner_of_lem c h = omega (arith, range, h.1)

  pub written_is : (c : ℕ) → Holds O c → (axis : ℕ) → axis < 3 → (k : ℕ) → k < 41 → written O axis c k ≡ get_or (net (refined_of rounded M axis) c) k (pos 0)
  unfolding written
  written_is c h axis small k inner =
      let d : ℕ = c - O.first in
      let i : ℕ = per_corner * d + 3 * k + axis in
      number_written M w.links O.first O.count w.old O.numbers w.call i (omega (arith, h.0, h.1))
      ∙ number_is M O.first d k axis i inner small refl
      ∙ ap (λ (x : ℕ). get_or (net (refined_of rounded M axis) x) k (pos 0)) (let e : O.first + d ≡ c = omega (arith, h.0) in e)
