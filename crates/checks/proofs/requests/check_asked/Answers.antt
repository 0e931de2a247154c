-- Checks 16 and 17 meet their contract: the first stops the chain with its fault or is passed.
use mathlib.Core.Path.{◌≡◌, sym}
use Prim.Native.Nat.{◌+◌, ◌≤◌, ◌<◌}
use Rattle.paper.specs.Mesh.{Mesh, corner_count}
use Rattle.paper.specs.Faults.{Verdict, single}
use Rattle.paper.specs.Calls.{fault17}
use Rattle.mesh.proofs.Verdicts.{past, single_hit, single_miss}
use Rattle.list_checks.proofs.Laws.{handed, stops}
use Rattle.checks.specs.Request.{range_faults}
use Rattle.checks.proofs.requests.Laws.{range_of, as_16, room_differs, room_fits}
use native.Mathlib.Omega.{arith}
use Rattle.checks.proofs.requests.check_asked.Goals as goal
use Rattle.checks.proofs.requests.check_asked.Goals.{In_ok-check_range}

-- after check 16
module _ (t : In_ok-check_range) where
  in_range : (0 < t.args.count) × (t.args.first + t.args.count ≤ t.args.corners)
  in_range = range_of _ _ _ (sym t.in_ok-check_range.ensures)

pub returns-in_err-check_range : goal.returns-in_err-check_range
unfolding range_faults
returns-in_err-check_range c =
    λ M e. handed c.from_residual.result c.in_err-check_range.field-0.0 c.from_residual.ensures.1
    (stops _ _ _ (as_16 M c.args.corners e c.args.first c.args.count c.in_err-check_range.ensures))

-- 17 decides where 16 has passed
module _ (t : In_ok-check_range) where
  later : (v : Verdict) → v ≡ single 17 (fault17 t.args.count t.args.room) t.args.room
      → (M : Mesh) → corner_count M ≡ t.args.corners → v ≡ range_faults M t.args.first t.args.count t.args.room
  unfolding range_faults
  later v q M e =
      past (sym (as_16 M t.args.corners e t.args.first t.args.count t.in_ok-check_range.ensures)) _ q

pub returns-then-room-count : goal.returns-then-room-count
returns-then-room-count c = later (goal.at.returns-then-room-count c).In_ok-check_range _ (sym (single_hit 17 _ (room_differs _ _ c.if-room-count.true)))

pub returns : goal.returns
returns c = later (goal.at.returns c).In_ok-check_range _ (sym (single_miss 17 _ (room_fits _ _ c.if-room-count.false)))

pub overflow_mul-count : goal.overflow_mul-count
overflow_mul-count c = omega (arith, (in_range (goal.at.overflow_mul-count c).In_ok-check_range).1, c.requires)
