-- `floats::difference` meets its contract: 18 and 20 keep both places within the list, 19 keeps the difference within 32 bits.
use lib.IntN.{ℤ, pos, nat_abs}
use lib.ListN.{get_or}
use native.Mathlib.Omega.{arith}
use Prim.Native.Nat.{ℕ, ◌+◌, ◌*◌, ◌^◌, ◌≤◌, ◌<◌}
use Rattle.paper.specs.Floats.{difference}
use Rattle.floats.proofs.Laws.{is_long, number_le, net_sound, point_le, less_fits, less_is, less_size}
use Rattle.floats.proofs.difference.Goals as goal

module _ (s : goal.Start) where
  -- the point's number, and b00's
  abbrev there : ℤ
  there = get_or s.args.numbers.now (3 * s.args.point + s.args.axis) (pos 0)

  abbrev here : ℤ
  here = get_or s.args.numbers.now s.args.axis (pos 0)

  at_most : s.args.point ≤ 40
  at_most = point_le _ _ s.requires.0

  small : (i : ℕ) → i < 123 → nat_abs (get_or s.args.numbers.now i (pos 0)) ≤ 2 ^ 27
  small = number_le _ (net_sound _ _ s.requires.0)

pub overflow_sub-result : goal.overflow_sub-result
overflow_sub-result c =
    less_fits (there (search)) (here (search)) (small (search) (3 * c.args.point + c.args.axis) (omega (arith, at_most (search), c.requires.1)))
    (small (search) c.args.axis (omega (arith, c.requires.1)))

pub returns : goal.returns
unfolding difference
returns c =
    let a = small (search) (3 * c.args.point + c.args.axis) (omega (arith, at_most (search), c.requires.1)) in
    let b = small (search) c.args.axis (omega (arith, c.requires.1)) in
    (less_is (there (search)) (here (search)) a b, less_size (there (search)) (here (search)) a b)

pub overflow_mul-result : goal.overflow_mul-result
overflow_mul-result c = record { fits = omega (arith, at_most (search)) }

pub overflow_add-result : goal.overflow_add-result
overflow_add-result c = record { fits = omega (arith, at_most (search), c.requires.1) }

pub offset_bounds-numbers-point : goal.offset_bounds-numbers-point
offset_bounds-numbers-point c = record { fits = omega (arith, at_most (search), c.requires.1) }

pub bounds-numbers-point : goal.bounds-numbers-point
bounds-numbers-point c = omega (arith, at_most (search), c.requires.1, is_long _ (net_sound _ _ c.requires.0))

pub bounds-numbers-axis : goal.bounds-numbers-axis
bounds-numbers-axis c = omega (arith, c.requires.1, is_long _ (net_sound _ _ c.requires.0))
