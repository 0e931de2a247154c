-- Every net that building writes passes 18 and 19: it has 123 numbers, each below 2^26.
use mathlib.Core.Path.{◌≡◌, ap, ◌∙◌, subst, sym}
use mathlib.Core.List.{List}
use Prim.Native.Nat.{ℕ, ◌+◌, ◌-◌, ◌*◌, ◌/◌, ◌%◌, ◌^◌, ◌≤◌, ◌<◌}
use native.Mathlib.Nat.{div-add-mod}
use native.Mathlib.Omega.{arith}
use lib.IntN.{ℤ, pos, nat_abs}
use lib.ListN.{length, get_or, take, drop, length-take, length-drop}
use lib.Seq.{get_or-take, get_or-drop}
use Rattle.paper.specs.Mesh.{Mesh, corner_count}
use Rattle.paper.specs.Faults.{sound, done}
use Rattle.paper.specs.Numbers.{rounded}
use Rattle.paper.specs.Refined.{refined_of}
use Rattle.paper.specs.Calls.{per_corner, number_at, nets, Built}
use Rattle.paper.specs.Floats.{net_verdict}
use Rattle.paper.specs.Claims.{NetsPass}
use Rattle.mesh.proofs.Links.{values_length}
use Rattle.mesh.proofs.NetLists.{passes}
use Rattle.surface.proofs.Sizes.{net_size}
use Rattle.surface.proofs.Hull.{corners_sound, points_small}
use Rattle.surface.proofs.Call.{accepted, range, number_written}

module _ (M : Mesh) (links : List ℕ) (first count : ℕ) (old out : List ℤ) (w : Built M links first count old done out) where
  length_out : length out ≡ per_corner * count
  unfolding nets
  length_out = ap (λ (o : List ℤ). length o) w.holds ∙ values_length (number_at rounded M first) 0 (per_corner * count)

  number_size : (i : ℕ) → i < per_corner * count → nat_abs (number_at rounded M first i) ≤ 2 ^ 26 - 1
  unfolding number_at
  number_size i l =
      let ok = accepted M links first count old out w in
      let here : first + i / per_corner < corner_count M = omega (arith, range M links first count old out w, div-add-mod i per_corner) in
      net_size (refined_of rounded M (i % 3)) (corners_sound M ok) (points_small M ok (i % 3)) (first + i / per_corner) here (i % per_corner / 3)

  out_size : (i : ℕ) → i < per_corner * count → nat_abs (get_or out i (pos 0)) ≤ 2 ^ 27
  out_size i l =
      subst (λ (z : ℤ). nat_abs z ≤ 2 ^ 27) (sym (number_written M links first count old out w i l)) (omega (arith, number_size i l))

  net_passes : (k : ℕ) → k < count → net_verdict (take per_corner (drop (per_corner * k) out)) ≡ sound
  net_passes k l =
      let n : length (take per_corner (drop (per_corner * k) out)) ≡ per_corner =
      length-take per_corner (drop (per_corner * k) out) ∙ omega (arith, length-drop (per_corner * k) out, length_out) in
      passes (take per_corner (drop (per_corner * k) out)) n λ j h.
      subst (λ (z : ℤ). nat_abs z ≤ 2 ^ 27)
      (sym (get_or-take per_corner (drop (per_corner * k) out) j (pos 0) h ∙ get_or-drop (per_corner * k) out j (pos 0)))
      (out_size (per_corner * k + j) (omega arith))

pub nets_pass : NetsPass
nets_pass = net_passes
