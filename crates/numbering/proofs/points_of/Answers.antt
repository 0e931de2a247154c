-- `points_of` meets its contract.
use Prim.Native.Nat.{◌-◌, ◌*◌, ◌≤◌}
use native.Mathlib.Omega.{arith}
use Rattle.numbering.proofs.Lent.{level_bounds, points_rest}
use Rattle.numbering.proofs.points_of.Goals as goal
use Rattle.numbering.proofs.points_of.Goals.{After-level_at-n}

few : (l : After-level_at-n) → (l.level_at-n.result * (l.level_at-n.result - 1) ≤ 240) × (1 ≤ l.level_at-n.result) × (l.level_at-n.result ≤ 16)
few l = level_bounds l.requires.0 l.args.c l.requires.1 _ l.level_at-n.ensures

pub returns : goal.returns
returns c =
    (omega (arith, few (search)), λ M t. points_rest M t c.args.c c.requires.1 _ _ (c.group_offset-a.ensures.1 M t) c.level_at-n.ensures)
