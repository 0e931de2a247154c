-- `put_pairs` meets its contract: the groups, one after the other.
use native.Mathlib.Omega.{arith}
use Rattle.net_tangents.specs.Lanes.{lane_of}
use Rattle.net_tangents.proofs.Laws.{all_lanes}
use Rattle.net_tangents.proofs.Groups.{net_paired}
use Rattle.net_tangents.proofs.put_pairs.Goals as goal

pub put_rings-requires : goal.put_rings-requires
put_rings-requires c =
    let k = c.requires.net.1 in (
      record { polynomials = lane_of c.args.numbers.now c.args.shape.level; lanes = all_lanes c.args.numbers.now c.requires.net.0 c.args.shape.level _ c.requires.net.1.few_level c.fill_lanes.ensures (omega (arith, c.fill_lanes.auto.table)) },
      k.some_level,
      k.few_level,
      omega (arith, c.requires.room, c.put_part.auto.out, c.put_part-2.auto.out, c.put_part-3.auto.out, c.put_part-4.auto.out, c.put_part-5.auto.out),
    )

pub returns : goal.returns
returns c =
    λ g old q aim.
    net_paired c.args.numbers.now c.args.shape c.requires.net.1 c.args.third c.args.at g aim old c.args.out.now _ _ _ _ _ _ q c.put_part.ensures
    c.put_part-2.ensures c.put_part-3.ensures c.put_part-4.ensures c.put_part-5.ensures
    (c.put_rings.ensures c.args.numbers.now (all_lanes c.args.numbers.now c.requires.net.0 c.args.shape.level _ c.requires.net.1.few_level c.fill_lanes.ensures (omega (arith, c.fill_lanes.auto.table))))
