-- The quotient rounded down is told by its two bounds; the machine's quotient of a number that is not negative is that one.
use mathlib.Core.Path.{◌≡◌, refl}
use Prim.Native.Nat.{ℕ, ◌+◌, ◌*◌, ◌<◌}
use native.Mathlib.Nat.{div-add-mod, mod-lt, lt_of_mul-lt-mul_left}
use native.Mathlib.Omega.{arith}
use lib.IntN.{ℤ, pos, negsuc, ◌+ℤ◌, ◌*ℤ◌}
use lib.Signed.{◌≤ℤ◌, ◌<ℤ◌, quot_z}
use Rattle.numbers.proofs.Diff.{as_diff, diff}
use Rattle.numbers.proofs.Poly.{over, poly}
use Rattle.paper.specs.Numbers.{floor}
use Rattle.numbers.proofs.Laws.{le_antisym, lt_of_le_of_lt}

-- ---- the floor is told by its two bounds
abbrev pub IsFloor : ℤ → ℤ → ℤ → Type 0
IsFloor z d q = ((d *ℤ q) ≤ℤ z) × (z <ℤ (d *ℤ q +ℤ d))

at_pos : (z : ℤ) (m : ℕ) → 0 < m → IsFloor z (pos m) (floor z (pos m))
unfolding floor
at_pos (pos a) m h = let e = div-add-mod a m in let l = mod-lt a h in simp diff (omega arith)
at_pos (negsuc a) m h = let e = div-add-mod a m in let l = mod-lt a h in simp diff (omega arith)

pub pos_of : {A : Type 0} (d : ℤ) → pos 0 <ℤ d → ((m : ℕ) → d ≡ pos m → 0 < m → A) → A
pos_of (pos m) h k = (let f = simp diff at h in k m refl (omega arith))
pos_of (negsuc m) h k = absurd h.lt

pub floor_is : (z d : ℤ) → pos 0 <ℤ d → IsFloor z d (floor z d)
floor_is z d h = pos_of d h λ m e l. rw e (at_pos z m l)

-- d·q < d·r + d gives q ≤ r
pub step_le : (d q r : ℤ) → pos 0 <ℤ d → (d *ℤ q) <ℤ (d *ℤ r +ℤ d) → q ≤ℤ r
step_le d q r h k = pos_of d h λ m e l. as_diff q λ p n eq. as_diff r λ p' n' er.
    let k' = simp (diff, e, eq, er) at k in
    let f : m * (p + n') < m * (p' + n + 1) = omega arith in
    let g = lt_of_mul-lt-mul_left m f in
    simp (diff, eq, er) (omega arith)

pub floor_unique : (z d q : ℤ) → pos 0 <ℤ d → IsFloor z d q → q ≡ floor z d
floor_unique z d q h i =
    let j = floor_is z d h in
    le_antisym _ _ (step_le d _ _ h (lt_of_le_of_lt _ _ _ i.0 j.1)) (step_le d _ _ h (lt_of_le_of_lt _ _ _ j.0 i.1))

-- ---- the machine's quotient, which goes towards zero
pub quot_floor : (t d : ℤ) → pos 0 ≤ℤ t → pos 0 <ℤ d → quot_z t d ≡ floor t d
unfolding floor
quot_floor (pos a) (pos b) h k = refl
quot_floor (pos a) (negsuc b) h k = absurd k.lt
quot_floor (negsuc a) d h k = absurd h.le

-- ---- twice a divisor is a divisor
pub double_pos : (d : ℤ) → pos 0 <ℤ d → pos 0 <ℤ (pos 2 *ℤ d)
double_pos = over 1 _ λ ρ. simp (poly, ρ) (omega arith)
