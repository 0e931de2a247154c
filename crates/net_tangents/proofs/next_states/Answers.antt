-- `next_states` meets its contract: a sum.
use Prim.Native.Nat.{◌+◌}
use native.Mathlib.Omega.{arith}
use lib.Dec.{lit<, lit≤}
use Rattle.net_tangents.proofs.Lanes.{states_small, states_next}
use Rattle.net_tangents.proofs.next_states.Goals as goal

pub add_ahead-requires : goal.add_ahead-requires
add_ahead-requires c =
    let r = c.requires in
    let small = states_small r.polynomials r.place c.args.states.now r.cubic r.steps r.few in
    record { at_le_to = (lit≤ tt, lit< tt, omega (arith, r.steps.long)); sizes = λ i a b. (small i (omega arith), small (i + 6) (omega arith)) }

pub returns : goal.returns
returns c =
    λ g j cubic r. states_next g j c.args.states.now cubic r _ c.add_ahead.ensures (omega (arith, c.add_ahead.auto.list, r.long))
