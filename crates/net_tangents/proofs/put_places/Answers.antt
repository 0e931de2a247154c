-- `put_places` meets its contract: before each turn the tangents at the places before are written, and the numbers are those of this place.
use mathlib.Core.Path.{refl, subst}
use Prim.Native.Nat.{ℕ, ◌+◌, ◌*◌}
use native.Mathlib.Omega.{arith}
use Rattle.strips.specs.PointRows.{Fills}
use Rattle.net_tangents.specs.Lanes.{rows_at, value_number}
use Rattle.strips.proofs.Rowed.{fills_none}
use Rattle.net_tangents.proofs.Lanes.{lanes_cubic}
use Rattle.net_tangents.proofs.Laws.{states_at, places_step}
use Rattle.net_tangents.proofs.put_places.Goals as goal

pub loop-j-init : goal.loop-j-init
loop-j-init c =
    λ F k l. (
      states_at (rows_at F c.args.lane k) c.args.first (c.args.first + 0) _ (omega arith) (c.first_states.ensures F k l),
      fills_none _ _ _,
    )

pub next_states-requires : goal.next_states-requires
next_states-requires c =
    let r = c.requires.row.0 in
    record {
      polynomials = rows_at r.1.polynomials c.args.lane r.0;
      place = c.args.first + c.loop-j.j;
      few = omega (arith, c.requires.places.1);
      cubic = lanes_cubic r.1.polynomials c.args.lane r.0 c.args.table.now r.1.lanes;
      steps = (c.loop-j.invariant r.1.polynomials r.0 r.1.lanes).0;
    }

pub loop-j-preserved : goal.loop-j-preserved
loop-j-preserved c =
    let l = c.loop-j in
    let lane = c.args.lane in
    let first = c.args.first in
    λ F k h.
    let g = rows_at F lane k in
    let i = l.invariant F k h in (
      states_at g (first + l.j + 1) (first + (l.j + 1)) _ (omega arith)
          (c.next_states.ensures g (first + l.j) (lanes_cubic F lane k c.args.table.now h) i.0),
      places_step g first l.j c.args.at _ l.states c.args.out.now l.out _ i.0 refl i.1 c.copy_six.ensures,
    )

pub returns : goal.returns
returns c =
    λ F k l.
    subst (λ (x : ℕ). Fills (value_number (rows_at F c.args.lane k) c.args.first) c.args.at (6 * x) c.args.out.now c.loop-j.out)
    (omega arith) (c.loop-j.invariant F k l).1
