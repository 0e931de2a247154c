-- `refine::weigh` meets its contract: every product is small.
use mathlib.Core.Path.{◌≡◌}
use Prim.Native.Nat.{ℕ, ◌+◌, ◌-◌, ◌*◌, ◌≤◌}
use native.Mathlib.Nat.{mul-le-mul}
use native.Mathlib.Omega.{arith}
use borrow.Author.Rules.{rules}
use lib.ListN.{get_or}
use mir.Syntax.{w32}
use mir.Val.{Fits}
use Rattle.paper.specs.Mesh.{most_sharpness, plain}
use Rattle.mesh.proofs.Accepted.{in_list}
use Rattle.corner_points.specs.Mean.{sharpness_weights}
use Rattle.corner_points.proofs.weigh.Goals as goal
use Rattle.corner_points.proofs.weigh.Goals.{Start}

-- u and v as the code reads them
module _ (s : Start) where
  abbrev u : ℕ
  u = get_or s.args.sharpness.now (2 * s.args.c) 0

  abbrev v : ℕ
  v = get_or s.args.sharpness.now (2 * s.args.c + 1) 0

  u_is : u ≡ get_or s.args.sharpness.now (2 * s.args.c) plain
  u_is = in_list s.args.sharpness.now (2 * s.args.c) 0 plain (omega (arith, s.requires.long))

  v_is : v ≡ get_or s.args.sharpness.now (2 * s.args.c + 1) plain
  v_is = in_list s.args.sharpness.now (2 * s.args.c + 1) 0 plain s.requires.long

  limits : (u ≤ most_sharpness) × (v ≤ most_sharpness)
  limits = (omega (arith, u_is, s.requires.u_most), omega (arith, v_is, s.requires.v_most))

-- products of two of them, and of their distances from 16
in_width : (a b : ℕ) → a ≤ 16 → b ≤ 16 → Fits w32 (a * b)
in_width a b ha hb = omega (arith, mul-le-mul ha hb)

twice_in_width : (a b : ℕ) → a ≤ 16 → b ≤ 16 → Fits w32 (2 * a * b)
twice_in_width a b ha hb = omega (arith, mul-le-mul ha hb)

pub overflow_mul-result-2 : goal.overflow_mul-result-2
overflow_mul-result-2 c = twice_in_width _ _ (omega (arith, limits (goal.at.overflow_mul-result-2 c).Start)) (omega (arith, limits (goal.at.overflow_mul-result-2 c).Start))

pub overflow_mul-result-3 : goal.overflow_mul-result-3
overflow_mul-result-3 c = in_width _ _ (omega (arith, limits (goal.at.overflow_mul-result-3 c).Start)) (omega (arith, limits (goal.at.overflow_mul-result-3 c).Start))

pub overflow_mul-result-5 : goal.overflow_mul-result-5
overflow_mul-result-5 c = in_width _ _ (omega (arith, limits (goal.at.overflow_mul-result-5 c).Start)) (omega (arith, limits (goal.at.overflow_mul-result-5 c).Start))

pub returns : goal.returns
unfolding sharpness_weights
returns c = let s = c in rw (u_is (goal.at.returns c).Start, v_is (goal.at.returns c).Start)

pub overflow_cast-u : goal.overflow_cast-u
overflow_cast-u c = omega (arith, limits (goal.at.overflow_cast-u c).Start)

pub overflow_cast-v : goal.overflow_cast-v
overflow_cast-v c = omega (arith, limits (goal.at.overflow_cast-v c).Start)

pub overflow_sub-to_u : goal.overflow_sub-to_u
overflow_sub-to_u c = omega (arith, limits (goal.at.overflow_sub-to_u c).Start)

pub overflow_sub-to_v : goal.overflow_sub-to_v
overflow_sub-to_v c = omega (arith, limits (goal.at.overflow_sub-to_v c).Start)

pub overflow_add-result : goal.overflow_add-result
overflow_add-result c = omega (arith, limits (goal.at.overflow_add-result c).Start)

pub overflow_mul-result-4 : goal.overflow_mul-result-4
overflow_mul-result-4 c = omega (arith, limits (goal.at.overflow_mul-result-4 c).Start)
