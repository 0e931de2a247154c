-- The refined point of a corner is a rounded mean of vertices, so it stays within their size: 2^24 ticks.
-- The corners of an accepted mesh then have all laws of `Sound`: the absence of faults gives them (mesh: `manifold`).
use mathlib.Core.Path.{◌≡◌, refl, ap}
use mathlib.Core.Bool.{Bool, true, false, ◌||◌, true≢false}
use mathlib.Core.Logic.{⊎_elim}
use Prim.Native.Nat.{ℕ, ◌+◌, ◌-◌, ◌*◌, ◌^◌, ◌<◌, ◌≤◌}
use native.Mathlib.Nat.{le_trans}
use native.Mathlib.Omega.{arith}
use borrow.Author.Tests.{ltb-true, ltb-false}
use lib.Dec.{ltb}
use lib.ListN.{length, get_or, get_or-eq_default}
use lib.IntN.{ℤ, pos, negsuc, ◌+ℤ◌, ◌*ℤ◌, nat_abs}
use lib.Signed.{lt_z, ◌<ℤ◌}
use Rattle.numbers.proofs.Diff.{as_diff, diff}
use Rattle.numbers.proofs.Poly.{over, poly}
use Rattle.numbers.proofs.Laws.{abs_mul_le, abs_add_le}
use Rattle.numbers.proofs.Sum.{sum_abs}
use Rattle.paper.specs.Mesh.{most_coordinate, Mesh}
use Rattle.paper.specs.Corners.{start_of, face_of, sides_of, next, previous}
use Rattle.paper.specs.Links.{vertex_of}
use Rattle.paper.specs.Faults.{fault7, Accepted}
use Rattle.paper.specs.Numbers.{round, rounded}
use Rattle.paper.specs.Refined.{ticks, face_sum, u_of, v_of, refined_point, corners_of, refined_of}
use Rattle.numbers.specs.WithinHalf.{WithinHalf}
use Rattle.numbers.proofs.Nearest.{round_within_half}
use Rattle.mesh.proofs.Scans.{ways}
use Rattle.mesh.proofs.Accepted.{sound_of, sharp_within}
use Rattle.mesh.proofs.Theorems.{manifold}
use Rattle.surface.specs.Sound.{Sound, RefinedSmall}
use Rattle.surface.proofs.Within.{Within, within_cancel, abs_within, positive}

-- ---- a vertex in ticks
within_limits : (z : ℤ) → lt_z z (negsuc (most_coordinate - 1)) || lt_z (pos most_coordinate) z ≡ false → nat_abs z ≤ most_coordinate
within_limits z = go (lt_z z (negsuc (most_coordinate - 1))) (lt_z (pos most_coordinate) z) refl refl
  where
    go : (a b : Bool) → lt_z z (negsuc (most_coordinate - 1)) ≡ a → lt_z (pos most_coordinate) z ≡ b → a || b ≡ false → nat_abs z ≤ most_coordinate
    go true b p q e = absurd (true≢false e)
    go false true p q e = absurd (true≢false e)
    go false false p q e = as_diff z λ x y d. let l = simp (diff, d) at p in let h = simp (diff, d) at q in simp (diff, d) (omega arith)

-- a number beyond the list is read as 0
pub coordinate_size : (M : Mesh) → Accepted M → (i : ℕ) → nat_abs (get_or M.coordinates i (pos 0)) ≤ most_coordinate
unfolding fault7
coordinate_size M a i =
    ⊎_elim
    (λ l. within_limits (get_or M.coordinates i (pos 0)) ((sound_of M a).seven i (ltb-true i (length M.coordinates) l)))
    (λ l. rw (get_or-eq_default M.coordinates (pos 0) (ltb-false i (length M.coordinates) l)) (omega arith))
    (ways (ltb i (length M.coordinates)))

pub ticks_size : (M : Mesh) → Accepted M → (axis c : ℕ) → nat_abs (ticks M axis c) ≤ 2 ^ 24
unfolding ticks
ticks_size M a axis c =
    let i : ℕ = 3 * vertex_of M.corners c + axis in
    abs_mul_le (pos 256) (get_or M.coordinates i (pos 0)) 256 most_coordinate (omega arith) (coordinate_size M a i)

-- ---- the refined point, from the sum s of n vertices and three of them, with weights that sum to 512
pub blend_size : (B n a b c d : ℕ) (s x y z : ℤ) → a + b + c + d ≡ 512 → nat_abs s ≤ n * B → nat_abs x ≤ B → nat_abs y ≤ B → nat_abs z ≤ B
    → nat_abs (pos a *ℤ s +ℤ pos n *ℤ (pos b *ℤ x +ℤ pos c *ℤ y +ℤ pos d *ℤ z)) ≤ n * (512 * B)
blend_size B n a b c d s x y z h hs hx hy hz =
    let t = abs_mul_le (pos a) s a (n * B) (omega arith) hs in
    let l = abs_mul_le (pos b) x b B (omega arith) hx in
    let m = abs_mul_le (pos c) y c B (omega arith) hy in
    let r = abs_mul_le (pos d) z d B (omega arith) hz in
    let lm = abs_add_le (pos b *ℤ x) (pos c *ℤ y) _ _ l m in
    let three = abs_add_le (pos b *ℤ x +ℤ pos c *ℤ y) (pos d *ℤ z) _ _ lm r in
    let w = abs_mul_le (pos n) (pos b *ℤ x +ℤ pos c *ℤ y +ℤ pos d *ℤ z) n _ (omega arith) three in
    le_trans (abs_add_le (pos a *ℤ s) (pos n *ℤ (pos b *ℤ x +ℤ pos c *ℤ y +ℤ pos d *ℤ z)) _ _ t w)
    (omega (arith, ap (λ (k : ℕ). n * B * k) h))

parts : (M P Q : ℤ) → Within P (M *ℤ pos (512 * 2 ^ 24)) → WithinHalf P (pos 512 *ℤ M) Q → Within (M *ℤ (pos 1024 *ℤ Q)) (M *ℤ pos (1024 * 2 ^ 24 + 512))
parts = over 3 _ λ ρ. simp (poly, ρ) (omega arith)

whole : (Q : ℤ) → Within (pos 1024 *ℤ Q) (pos (1024 * 2 ^ 24 + 512)) → nat_abs Q ≤ 2 ^ 24
whole = over 1 _ λ ρ. simp (poly, ρ) (omega arith)

some : (m : ℕ) → 0 < m → pos 0 <ℤ (pos 512 *ℤ pos m)
some m h = simp diff (omega arith)

pub mean_size : (n : ℕ) (t : ℤ) → 0 < n → nat_abs t ≤ n * (512 * 2 ^ 24) → nat_abs (round t (pos 512 *ℤ pos n)) ≤ 2 ^ 24
mean_size n t h l =
    let q : ℤ = round t (pos 512 *ℤ pos n) in
    whole q (within_cancel (pos n) (pos 1024 *ℤ q) (pos (1024 * 2 ^ 24 + 512)) (positive n h)
    (parts (pos n) t q (abs_within t n (512 * 2 ^ 24) l) (round_within_half _ _ (some n h))))

-- the weights of u and v
pub weights_sum : (u v : ℕ) → u ≤ 16 → v ≤ 16 → 2 * (16 - u) * (16 - v) + (16 - u) * v + 16 * (u + v) + u * (16 - v) ≡ 512
weights_sum u v hu hv =
    parted (16 - u) u (16 - v) v (omega arith) (omega arith)
  where
    parted : (a u b v : ℕ) → a + u ≡ 16 → b + v ≡ 16 → 2 * a * b + a * v + 16 * (u + v) + u * b ≡ 512
    parted a u b v ha hb = omega (arith, ap (λ (k : ℕ). a * k) hb, ap (λ (k : ℕ). k * b) ha, ha, hb)

pub refined_size : (M : Mesh) → Accepted M → (axis c : ℕ) → 0 < sides_of M.sides c → nat_abs (refined_point rounded M axis c) ≤ 2 ^ 24
unfolding refined_point face_sum sides_of u_of v_of
refined_size M a axis c here =
    let start : ℕ = start_of M.sides (face_of M.sides c) in
    let n : ℕ = sides_of M.sides c in
    mean_size n _ here
    (blend_size (2 ^ 24) n _ _ _ _ (face_sum M axis (face_of M.sides c)) (ticks M axis (previous M.sides c)) (ticks M axis c)
    (ticks M axis (next M.sides c))
    (weights_sum (u_of M c) (v_of M c) (sharp_within M a (2 * c)) (sharp_within M a (2 * c + 1)))
    (sum_abs (λ j. ticks M axis (start + j)) n (2 ^ 24) (λ j l. ticks_size M a axis (start + j)))
    (ticks_size M a axis (previous M.sides c)) (ticks_size M a axis c) (ticks_size M a axis (next M.sides c)))

-- ---- the laws of an accepted mesh, and the size of its refined points on any axis
pub corners_sound : (M : Mesh) → Accepted M → Sound (corners_of M)
corners_sound M a = record {
  next_in = λ c h. (manifold M a c h).next_below;
  previous_in = λ c h. (manifold M a c h).previous_below;
  link_in = λ c h. (manifold M a c h).link_below;
  next_previous = λ c h. (manifold M a c h).next_previous;
  previous_next = λ c h. (manifold M a c h).previous_next;
  link_previous_link = λ c h. (manifold M a c h).across;
  face_closes = λ c h. (manifold M a c h).face_turn.back;
  vertex_closes = λ c h. (manifold M a c h).vertex_turn.back;
  sides_next = λ c h. (manifold M a c h).sides_next;
  valence_link = λ c h. (manifold M a c h).link_valence;
  sides_least = λ c h. (manifold M a c h).sides_from_lem;
  sides_most = λ c h. (manifold M a c h).sides_to;
  valence_least = λ c h. (manifold M a c h).valence_from;
  valence_most = λ c h. (manifold M a c h).valence_to;
}

pub points_small : (M : Mesh) → Accepted M → (axis : ℕ) → RefinedSmall (refined_of rounded M axis)
points_small M a axis c h = refined_size M a axis c (omega (arith, (manifold M a c h).sides_from_lem))
