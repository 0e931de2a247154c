-- `put_part` meets its contract: the places of the border's row, by the table at hand or by one of its own, or none.
use mathlib.Core.Path.{◌≡◌, refl}
use Prim.Native.Nat.{ℕ, ◌+◌, ◌*◌}
use native.Mathlib.Omega.{arith}
use Rattle.net_tangents.specs.Lanes.{lane_of, Lanes}
use Rattle.net_tangents.proofs.Laws.{side_lanes, values_fill}
use Rattle.net_tangents.proofs.put_part.Goals as goal
use Rattle.net_tangents.proofs.put_part.Goals.{Start}

-- the table at hand
module _ (s : Start) where
  abbrev lane : ℕ
  lane = 6 * s.args.side

  at_hand : (n : ℕ) → n ≡ s.args.level → Lanes (lane_of s.args.numbers.now n) lane (lane + 6) 0 s.args.table.now
  at_hand n e =
      let k = s.requires.net in
      rw e (side_lanes s.args.numbers.now k.0 s.args.level s.args.side 0 12 s.args.table.now k.2 k.1 (omega arith) (omega (arith, k.1)) k.3 k.4)

pub put_places-requires : goal.put_places-requires
put_places-requires c =
    record { row = ((0, record { polynomials = lane_of c.args.numbers.now c.args.level; lanes = at_hand (search) c.args.level refl }), omega (arith, c.requires.net.1)); places = (c.requires.parts.2, omega (arith, c.requires.parts.1, c.requires.parts.3), c.requires.parts.4) }

pub returns-then-n-level : goal.returns-then-n-level
returns-then-n-level c =
    values_fill c.args.numbers.now c.args.n 0 c.args.side c.args.first c.args.count c.args.at c.args.out.now _ c.requires.net.1 (omega (arith, c.requires.parts.3))
    (c.put_places.ensures (lane_of c.args.numbers.now c.args.n) 0 (at_hand (search) c.args.n (omega arith)))

pub put_places-requires-then-count-gt0 : goal.put_places-requires-then-count-gt0
put_places-requires-then-count-gt0 c =
    let own = side_lanes c.args.numbers.now c.requires.net.0 c.args.n c.args.side (3 * c.args.side) (3 * c.args.side + 3) _ c.requires.parts.1 c.requires.net.1 (omega arith) (omega arith) c.fill_lanes.ensures (omega (arith, c.fill_lanes.auto.table)) in record { row = ((0, record { polynomials = lane_of c.args.numbers.now c.args.n; lanes = own }), omega (arith, c.requires.net.1)); places = (c.requires.parts.2, omega (arith, c.requires.parts.1, c.requires.parts.3), c.requires.parts.4) }

pub returns-else-n-level : goal.returns-else-n-level
returns-else-n-level c =
    let own = side_lanes c.args.numbers.now c.requires.net.0 c.args.n c.args.side (3 * c.args.side) (3 * c.args.side + 3) _ c.requires.parts.1 c.requires.net.1 (omega arith) (omega arith) c.fill_lanes.ensures (omega (arith, c.fill_lanes.auto.table)) in
    values_fill c.args.numbers.now c.args.n 0 c.args.side c.args.first c.args.count c.args.at c.args.out.now _ c.requires.net.1 (omega (arith, c.requires.parts.3))
    (c.put_places-then-count-gt0.ensures (lane_of c.args.numbers.now c.args.n) 0 own)
