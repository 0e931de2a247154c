-- What a call of building that is not refused tells: the mesh is accepted, its range lies within the corners, and what its output holds.
use mathlib.Core.Path.{◌≡◌, sym, ap, ◌∙◌}
use mathlib.Core.Bool.{Bool, true, false, ◌||◌, true≢false}
use mathlib.Core.List.{List}
use Prim.Native.Nat.{ℕ, ◌+◌, ◌*◌, ◌≤◌, ◌<◌}
use native.Mathlib.Omega.{arith}
use borrow.Author.Tests.{ltb-false}
use lib.Dec.{eqb}
use lib.ListN.{get_or}
use lib.IntN.{ℤ, pos}
use Rattle.paper.specs.Mesh.{Mesh, corner_count}
use Rattle.paper.specs.Faults.{link_verdict, Accepted, done}
use Rattle.paper.specs.Numbers.{rounded}
use Rattle.paper.specs.Calls.{per_corner, number_at, nets, build_verdict, fault16, Built}
use Rattle.mesh.proofs.Verdicts.{sound_left, sound_right, single_sound}
use Rattle.mesh.proofs.Links.{values_at}

or_right : (x y : Bool) → x || y ≡ false → y ≡ false
or_right true y e = absurd (true≢false e)
or_right false y e = e

module _ (M : Mesh) (links : List ℕ) (first count : ℕ) (old out : List ℤ) (w : Built M links first count old done out) where
  pub accepted : Accepted M
  unfolding build_verdict link_verdict
  accepted = sound_left _ _ (sound_left _ _ (sym w.answers))

  pub range : first + count ≤ corner_count M
  unfolding build_verdict fault16
  range =
      ltb-false (corner_count M) (first + count)
      (or_right (eqb count 0) _ (single_sound _ _ _ (sound_left _ _ (sound_right _ _ (sound_right _ _ (sym w.answers))))))

  pub number_written : (i : ℕ) → i < per_corner * count → get_or out i (pos 0) ≡ number_at rounded M first i
  unfolding nets
  number_written i l =
      ap (λ (o : List ℤ). get_or o i (pos 0)) w.holds ∙ values_at (number_at rounded M first) (pos 0) 0 (per_corner * count) i l
      ∙ ap (number_at rounded M first) (let e : 0 + i ≡ i = omega arith in e)
