-- `first_states` meets its contract: the numbers at the first place, and those at the next where they are asked for.
use native.Mathlib.Omega.{arith}
use lib.Dec.{lit≤}
use Rattle.net_tangents.specs.Lanes.{rows_at}
use Rattle.net_tangents.proofs.Lanes.{lanes_cubic}
use Rattle.net_tangents.proofs.Laws.{copies_states, states_at}
use Rattle.net_tangents.proofs.first_states.Goals as goal

pub next_states-requires : goal.next_states-requires
next_states-requires c =
    let r = c.requires.0 in
    record {
      polynomials = rows_at r.1.polynomials c.args.lane r.0;
      place = 0;
      few = lit≤ tt;
      cubic = lanes_cubic r.1.polynomials c.args.lane r.0 c.args.table.now r.1.lanes;
      steps = copies_states c.args.table.now c.args.lane c.args.states.now _ _ _ _ c.requires.3 c.copy_six.ensures c.copy_six-2.ensures c.copy_six-3.ensures c.copy_six-4.ensures r.1.polynomials r.0 r.1.lanes;
    }

pub returns-then-first-eq1 : goal.returns-then-first-eq1
returns-then-first-eq1 c =
    λ F k l.
    states_at (rows_at F c.args.lane k) 1 c.args.first _ (omega arith)
    (c.next_states.ensures (rows_at F c.args.lane k) 0 (lanes_cubic F c.args.lane k c.args.table.now l)
    (copies_states c.args.table.now c.args.lane c.args.states.now _ _ _ _ c.requires.3 c.copy_six.ensures c.copy_six-2.ensures c.copy_six-3.ensures c.copy_six-4.ensures F k l))

pub returns-else-first-eq1 : goal.returns-else-first-eq1
returns-else-first-eq1 c =
    λ F k l.
    states_at (rows_at F c.args.lane k) 0 c.args.first _ (omega (arith, c.requires.2, c.if-first-eq1.false))
    (copies_states c.args.table.now c.args.lane c.args.states.now _ _ _ _ c.requires.3 c.copy_six.ensures c.copy_six-2.ensures c.copy_six-3.ensures c.copy_six-4.ensures F k l)
