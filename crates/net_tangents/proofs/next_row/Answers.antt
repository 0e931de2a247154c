-- `next_row` meets its contract: three sums.
use native.Mathlib.Omega.{arith}
use Rattle.net_tangents.proofs.Lanes.{next_lanes}
use Rattle.net_tangents.proofs.next_row.Goals as goal

pub returns : goal.returns
returns c =
    λ F k l b.
    next_lanes F k c.args.table.now _ _ _ l c.add_ahead.ensures c.add_ahead-2.ensures c.add_ahead-3.ensures b
    (omega (arith, c.requires.0, c.add_ahead.auto.list, c.add_ahead-2.auto.list, c.add_ahead-3.auto.list))
