-- `control_points::Triangle::a_row` meets its contract, point by point.
use mathlib.Core.Path.{refl, sym, ◌∙◌}
use lib.Dec.{lit≤}
use Rattle.paper.specs.Sampling.{on_axis}
use Rattle.bernstein.proofs.Identity.{vector5_same}
use Rattle.control_points.proofs.Laws.{by_bits, a_place_lem}
use Rattle.control_points.proofs.Triangle.a_row.Goals as goal

pub returns : goal.returns
returns c =
    let p = on_axis c.args.self.now.numbers.now c.args.self.now.axis in
    vector5_same (by_bits c.a_point.result _ c.a_point.ensures ∙ sym (a_place_lem p c.args.self.now.side 0 (lit≤ tt)))
    (by_bits c.a_point-2.result _ c.a_point-2.ensures ∙ sym (a_place_lem p c.args.self.now.side 1 (lit≤ tt)))
    (by_bits c.a_point-3.result _ c.a_point-3.ensures ∙ sym (a_place_lem p c.args.self.now.side 2 (lit≤ tt)))
    (by_bits c.a_point-4.result _ c.a_point-4.ensures ∙ sym (a_place_lem p c.args.self.now.side 3 (lit≤ tt))) refl
