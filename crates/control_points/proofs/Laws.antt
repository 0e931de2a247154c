-- The control points of a side by their places, and a net's numbers by their bits.
use mathlib.Core.Path.{◌≡◌, refl, ap, ◌∙◌}
use mathlib.Core.List.{List}
use Prim.Native.Nat.{ℕ, zero, suc, ◌+◌, ◌*◌, ◌^◌, ◌≤◌, ◌<◌}
use native.Mathlib.Omega.{arith}
use lib.Dec.{lit<, lit≤}
use lib.IntN.{ℤ, nat_abs}
use mir.Syntax.{w32, w64}
use mir.Val.{SFits, to_z, of_z}
use mir.ValLaws.{to_z-of_z}
use Rattle.paper.specs.Faults.{sound}
use Rattle.paper.specs.Floats.{net_verdict}
use Rattle.paper.specs.Sampling.{control, on_axis, side_at}
use Rattle.numbers.proofs.Machine.{abs_fits}
use Rattle.floats.proofs.Laws.{number_le}
use Rattle.bernstein.proofs.Laws.{sized_bits}
use Rattle.control_points.specs.Places.{b_place, a_place}

-- ---- the control points of a side by their places
module _ (p : ℕ → ℤ) where
  pub outer_place : (side q : ℕ) → q ≤ 4 → control p (side_at side) 0 q ≡ p (b_place side 0 q)
  outer_place zero q h = ap p (omega arith)
  outer_place (suc zero) q h = ap p (omega arith)
  outer_place (suc (suc zero)) q h = ap p (omega arith)
  outer_place (suc (suc (suc n))) q h = ap p (omega arith)

  pub a_place_lem : (side q : ℕ) → q ≤ 3 → control p (side_at side) 1 q ≡ p (a_place side 0 q)
  a_place_lem zero q h = ap p (omega arith)
  a_place_lem (suc zero) q h = ap p (omega arith)
  a_place_lem (suc (suc zero)) q h = ap p (omega arith)
  a_place_lem (suc (suc (suc n))) q h = ap p (omega arith)

  pub inner_place : (side q : ℕ) → q ≤ 2 → control p (side_at side) 2 q ≡ p (b_place side 1 q)
  inner_place zero q h = ap p (omega arith)
  inner_place (suc zero) q h = ap p (omega arith)
  inner_place (suc (suc zero)) q h = ap p (omega arith)
  inner_place (suc (suc (suc n))) q h = ap p (omega arith)

  pub inner_a_place : (side q : ℕ) → q ≤ 1 → control p (side_at side) 3 q ≡ p (a_place side 1 q)
  inner_a_place zero q h = ap p (omega arith)
  inner_a_place (suc zero) q h = ap p (omega arith)
  inner_a_place (suc (suc zero)) q h = ap p (omega arith)
  inner_a_place (suc (suc (suc n))) q h = ap p (omega arith)

  pub centre_place : (side : ℕ) → control p (side_at side) 4 0 ≡ p (b_place side 2 0)
  centre_place zero = refl
  centre_place (suc zero) = refl
  centre_place (suc (suc zero)) = refl
  centre_place (suc (suc (suc n))) = refl

-- a number by its bits, of 32 and of 64
module _ (numbers : List ℤ) (e : net_verdict numbers ≡ sound) (point axis : ℕ) (h : axis < 3) (l : point ≤ 40) where
  pub number_size : nat_abs (on_axis numbers axis point) ≤ 2 ^ 27
  number_size = number_le numbers e (3 * point + axis) (omega arith)

  narrow : to_z w32 (of_z w32 (on_axis numbers axis point)) ≡ on_axis numbers axis point
  narrow = to_z-of_z w32 _ (abs_fits w32 _ (2 ^ 27) number_size (lit< tt))

  pub number_fits : SFits w64 (to_z w32 (of_z w32 (on_axis numbers axis point)))
  number_fits = rw narrow (abs_fits w64 _ (2 ^ 27) number_size (lit< tt))

  pub number_is : to_z w64 (of_z w64 (to_z w32 (of_z w32 (on_axis numbers axis point)))) ≡ on_axis numbers axis point
  number_is = to_z-of_z w64 _ number_fits ∙ narrow

pub by_bits : (r z : ℤ) → (r ≡ z) × (nat_abs r ≤ 2 ^ 27) → to_z w64 (of_z w64 r) ≡ z
by_bits r z h = sized_bits r (2 ^ 27) h.1 (lit≤ tt) ∙ h.0
