-- `net_points::writing::put_curve_on` meets its contract: the row on the border from its second place on.
use Rattle.net_points.proofs.writing.Laws.{curve_sampleable}
use Rattle.net_points.proofs.writing.put_curve_on.Goals as goal

pub put_row-requires : goal.put_row-requires
put_row-requires c =
    let s = c in
    let r = c in
    (curve_sampleable s.args.p s.args.m s.requires.0 r.row_at-e.result r.row_at-e.ensures, s.requires.1)
