-- `control_points::Triangle::inner_row` meets its contract, point by point.
use mathlib.Core.Path.{refl, sym, ◌∙◌}
use lib.Dec.{lit≤}
use Rattle.paper.specs.Sampling.{on_axis}
use Rattle.bernstein.proofs.Identity.{vector5_same}
use Rattle.control_points.proofs.Laws.{by_bits, inner_place}
use Rattle.control_points.proofs.Triangle.inner_row.Goals as goal

pub returns : goal.returns
returns c =
    vector5_same
    (by_bits c.b_point.result _ c.b_point.ensures
    ∙ sym (inner_place (on_axis c.args.self.now.numbers.now c.args.self.now.axis) c.args.self.now.side 0 (lit≤ tt)))
    (by_bits c.b_point-2.result _ c.b_point-2.ensures
    ∙ sym (inner_place (on_axis c.args.self.now.numbers.now c.args.self.now.axis) c.args.self.now.side 1 (lit≤ tt)))
    (by_bits c.b_point-3.result _ c.b_point-3.ensures ∙ sym (inner_place (on_axis c.args.self.now.numbers.now c.args.self.now.axis) c.args.self.now.side 2 (lit≤ tt)))
    refl refl
