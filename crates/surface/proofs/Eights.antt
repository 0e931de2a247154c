-- With 8 and 8 throughout, the refined points are those of 01: dividend and divisor have the factor 64 in common.
use mathlib.Core.Path.{◌≡◌, refl, ap, fun_ext}
use Prim.Native.Nat.{ℕ, zero, suc, ◌+◌, ◌*◌}
use native.Mathlib.Omega.{arith}
use lib.ListN.{get_or, replicate}
use lib.IntN.{ℤ, pos, ◌+ℤ◌, ◌*ℤ◌}
use lib.Signed.{lt_z_yes}
use Rattle.numbers.proofs.Poly.{over, poly}
use Rattle.numbers.proofs.Sum.{sum_zero}
use Rattle.paper.specs.Mesh.{Mesh, plain, corner_count}
use Rattle.paper.specs.Corners.{face_of, sides_of, next, previous}
use Rattle.paper.specs.Numbers.{round, rounded}
use Rattle.paper.specs.Refined.{ticks, face_sum, u_of, v_of, refined_point, point_of01, corners_of}
use Rattle.paper.specs.Claims.{Plain, PlainPoints}
use Rattle.numbers.proofs.Nearest.{round_scale}
use Rattle.surface.proofs.Within.{positive}

-- ---- one number throughout
throughout : {A : Type 0} (n i : ℕ) (x : A) → get_or (replicate n x) i x ≡ x
throughout zero i x = refl
throughout (suc n) zero x = refl
throughout (suc n) (suc i) x = throughout n i x

-- ---- the common factor; a face without sides has no sum
factor : (M s x y z : ℤ) → pos 128 *ℤ s +ℤ M *ℤ (pos 64 *ℤ x +ℤ pos 256 *ℤ y +ℤ pos 64 *ℤ z) ≡ pos 64 *ℤ (pos 2 *ℤ s +ℤ M *ℤ (x +ℤ pos 4 *ℤ y +ℤ z))
factor = over 5 _ λ ρ. simp (poly, ρ) (omega arith)

empty : (s w : ℤ) → s ≡ pos 0 → pos 2 *ℤ s +ℤ pos 0 *ℤ w ≡ pos 64 *ℤ (pos 2 *ℤ s +ℤ pos 0 *ℤ w)
empty = over 2 _ λ ρ. simp (poly, ρ) (omega arith)

scaled : (n : ℕ) (t : ℤ) → (n ≡ 0 → t ≡ pos 64 *ℤ t) → round (pos 64 *ℤ t) (pos (512 * n)) ≡ round t (pos (8 * n))
scaled zero t h = ap (λ (z : ℤ). round z (pos 0)) (rw (← h refl))
scaled (suc n) t h =
    let e : 512 * suc n ≡ 64 * (8 * suc n) = omega arith in
    rw e (round_scale (pos 64) t (pos (8 * suc n)) (lt_z_yes tt) (positive (8 * suc n) (omega arith)))

-- ---- the refined point
module _ (M : Mesh) (e : Plain M) (axis c : ℕ) where
  u_is : u_of M c ≡ 8
  unfolding u_of
  u_is = rw e (throughout (2 * corner_count M) (2 * c) plain)

  v_is : v_of M c ≡ 8
  unfolding v_of
  v_is = rw e (throughout (2 * corner_count M) (2 * c + 1) plain)

  no_sides : sides_of M.sides c ≡ 0 → face_sum M axis (face_of M.sides c) ≡ pos 0
  unfolding face_sum sides_of
  no_sides h = rw h (sum_zero _)

  pub point_is : refined_point rounded M axis c ≡ point_of01 rounded M axis c
  unfolding refined_point point_of01
  point_is =
      let n : ℕ = sides_of M.sides c in
      let s : ℤ = face_sum M axis (face_of M.sides c) in
      let x : ℤ = ticks M axis (previous M.sides c) in
      let y : ℤ = ticks M axis c in
      let z : ℤ = ticks M axis (next M.sides c) in
      rw (u_is, v_is, factor (pos n) s x y z)
      (scaled n (pos 2 *ℤ s +ℤ pos n *ℤ (x +ℤ pos 4 *ℤ y +ℤ z)) (λ h. rw h (empty s (x +ℤ pos 4 *ℤ y +ℤ z) (no_sides h))))

pub plain_points : PlainPoints
plain_points M e axis = ap (λ (p : ℕ → ℤ). record { corners = corners_of M; point = p }) (fun_ext (λ c. point_is M e axis c))
