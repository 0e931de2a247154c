-- `minus` meets its contract, row by row.
use Rattle.net_tangents.specs.Lanes.{minus_of}
use Rattle.net_tangents.proofs.Cubic.{matrix_same}
use Rattle.net_tangents.proofs.minus.Goals as goal

pub returns : goal.returns
unfolding minus_of
returns c =
    matrix_same c.less-r0.ensures c.less-r1.ensures c.less-r2.ensures c.less-r3.ensures c.less-r4.ensures
