-- `control_points::control_points` meets its contract, row by row.
use mathlib.Core.Path.{refl, sym, ◌∙◌}
use lib.Dec.{lit≤}
use Rattle.paper.specs.Sampling.{on_axis}
use Rattle.bernstein.proofs.Identity.{vector5_same}
use Rattle.bernstein.proofs.Rows.{matrix5_same}
use Rattle.control_points.proofs.Laws.{by_bits, inner_a_place, centre_place}
use Rattle.control_points.proofs.control_points.Goals as goal

pub returns : goal.returns
returns c =
    let p = on_axis c.args.numbers.now c.args.axis in
    matrix5_same c.outer_row.ensures c.a_row.ensures c.inner_row.ensures
    (vector5_same (by_bits c.a_point.result _ c.a_point.ensures ∙ sym (inner_a_place p c.args.side 0 (lit≤ tt)))
    (by_bits c.a_point-2.result _ c.a_point-2.ensures ∙ sym (inner_a_place p c.args.side 1 (lit≤ tt))) refl refl refl)
    (vector5_same (by_bits c.b_point.result _ c.b_point.ensures ∙ sym (centre_place p c.args.side)) refl refl refl refl)
