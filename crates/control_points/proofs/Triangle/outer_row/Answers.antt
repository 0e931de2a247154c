-- `control_points::Triangle::outer_row` meets its contract, point by point.
use mathlib.Core.Path.{sym, ◌∙◌}
use lib.Dec.{lit≤}
use Rattle.paper.specs.Sampling.{on_axis}
use Rattle.bernstein.proofs.Identity.{vector5_same}
use Rattle.control_points.proofs.Laws.{by_bits, outer_place}
use Rattle.control_points.proofs.Triangle.outer_row.Goals as goal

pub returns : goal.returns
returns c =
    let p = on_axis c.args.self.now.numbers.now c.args.self.now.axis in
    vector5_same (by_bits c.b_point.result _ c.b_point.ensures ∙ sym (outer_place p c.args.self.now.side 0 (lit≤ tt)))
    (by_bits c.b_point-2.result _ c.b_point-2.ensures ∙ sym (outer_place p c.args.self.now.side 1 (lit≤ tt)))
    (by_bits c.b_point-3.result _ c.b_point-3.ensures ∙ sym (outer_place p c.args.self.now.side 2 (lit≤ tt)))
    (by_bits c.b_point-4.result _ c.b_point-4.ensures ∙ sym (outer_place p c.args.self.now.side 3 (lit≤ tt)))
    (by_bits c.b_point-5.result _ c.b_point-5.ensures ∙ sym (outer_place p c.args.self.now.side 4 (lit≤ tt)))
