-- Places in a ring of four sides with w places each: a side's last place is the first of the next side.
use mathlib.Core.Path.{◌≡◌, sym, ap, ◌∙◌}
use Prim.Native.Nat.{ℕ, ◌+◌, ◌*◌, ◌/◌, ◌%◌, ◌≤◌, ◌<◌}
use native.Mathlib.Omega.{arith}
use native.Mathlib.Nat.{mul-le-mul_right}
use lib.Dec.{eqb}
use borrow.Author.Tests.{eq-eqb}
use Rattle.paper.specs.Scan.{pick_n}
use Rattle.paper.specs.Net.{Side, side0, side1, side2, side3}
use Rattle.paper.specs.Sampling.{side_at, side_number}
use Rattle.paper.specs.Triangles.{turn}
use Rattle.bernstein.proofs.Samples.{side_back}
use Rattle.strips.proofs.Cases.{pick_equal, side_three, ring_side, ring_rest}

pub same_side : (s t : Side) → side_number s ≡ side_number t → s ≡ t
same_side s t e = sym (side_back s) ∙ ap side_at e ∙ side_back t

abbrev pub ring_place : Side → ℕ → ℕ → ℕ
ring_place s w j = pick_n (eqb (side_number s * w + j) (4 * w)) 0 (side_number s * w + j)

side_most : (s : Side) (w j : ℕ) → j ≤ w → side_number s * w + j ≤ 4 * w
side_most s w j h = omega (arith, mul-le-mul_right w (side_three s))

side_below : (s : Side) (w j : ℕ) → j < w → side_number s * w + j < 4 * w
side_below s w j h = omega (arith, mul-le-mul_right w (side_three s))

-- a place at the ring's end is the ring's first, any other is where the side has it
by_place : {G : Type 0} (s : Side) (w j : ℕ) → (side_number s * w + j ≡ 4 * w → ring_place s w j ≡ 0 → G)
    → ((side_number s * w + j ≡ 4 * w → ⊥) → ring_place s w j ≡ side_number s * w + j → G) → G
by_place s w j f g = pick_equal (side_number s * w + j) (4 * w) 0 (side_number s * w + j) f g

pub ring_below : (s : Side) (w j : ℕ) → j ≤ w → 0 < w → ring_place s w j < 4 * w
ring_below s w j h g = by_place s w j (λ p e. omega arith) (λ p e. omega (arith, p, side_most s w j h))

pub ring_one : (s : Side) (w j : ℕ) → w ≡ 0 → j ≤ w → ring_place s w j ≡ 0
ring_one s w j z h = by_place s w j (λ p e. e) (λ p e. omega (arith, side_most s w j h))

pub ring_norm : (s : Side) (w j : ℕ) → j < w → ring_place s w j ≡ side_number s * w + j
ring_norm s w j h = by_place s w j (λ p e. absurd (omega (arith, side_below s w j h))) (λ p e. e)

-- a ring has each point once
pub ring_once : (s t : Side) (w j i : ℕ) → j < w → i < w → ring_place s w j ≡ ring_place t w i → (s ≡ t) × (j ≡ i)
ring_once s t w j i a b e =
    let f = sym (ring_norm s w j a) ∙ e ∙ ring_norm t w i b in (
      same_side s t (sym (ring_side (side_number s) w j a) ∙ ap (λ (x : ℕ). x / w) f ∙ ring_side (side_number t) w i b),
      sym (ring_rest (side_number s) w j a) ∙ ap (λ (x : ℕ). x % w) f ∙ ring_rest (side_number t) w i b,
    )

-- also with the last place, on one side
pub ring_places : (s : Side) (w j i : ℕ) → j ≤ w → i ≤ w → ring_place s w j ≡ ring_place s w i → j ≡ i
ring_places s w j i a b e =
    by_place s w j (λ p q. by_place s w i (λ x y. omega arith) (λ x y. omega (arith, x))) (λ p q. by_place s w i (λ x y. omega (arith, p)) (λ x y. omega arith))

-- a side's last place is the next side's first
ring_zero : (w : ℕ) → ring_place side0 w 0 ≡ 0
ring_zero w = by_place side0 w 0 (λ p e. e) (λ p e. e ∙ omega arith)

pub ring_turn : (s : Side) (w : ℕ) → ring_place s w w ≡ ring_place (turn s) w 0
ring_turn side0 w = ap (λ (q : ℕ). pick_n (eqb q (4 * w)) 0 q) (let e : 0 * w + w ≡ 1 * w + 0 = omega arith in e)
ring_turn side1 w = ap (λ (q : ℕ). pick_n (eqb q (4 * w)) 0 q) (let e : 1 * w + w ≡ 2 * w + 0 = omega arith in e)
ring_turn side2 w = ap (λ (q : ℕ). pick_n (eqb q (4 * w)) 0 q) (let e : 2 * w + w ≡ 3 * w + 0 = omega arith in e)
ring_turn side3 w = rw (eq-eqb (3 * w + w) (4 * w) (let e : 3 * w + w ≡ 4 * w = omega arith in e)) (sym (ring_zero w))

-- no two steps lead round it
pub ring_turns : (s t : Side) (w j i : ℕ) → j < w → i < w → ring_place s w j ≡ ring_place t w (i + 1) → ring_place s w (j + 1) ≡ ring_place t w i → ⊥
ring_turns s t w j i a b e f =
    let x = ring_norm s w j a in let y = ring_norm t w i b in
    by_place t w (i + 1)
    (λ p q. by_place s w (j + 1) (λ u v. omega arith) (λ u v. omega arith))
    (λ p q. by_place s w (j + 1) (λ u v. omega arith) (λ u v. omega arith))
