-- Row after row is placed: laws of the whole grid give each goal.
use Rattle.std.proofs.Common.{arith, ◌+◌, ◌*◌}
use Rattle.net_rows.proofs.points.Laws.{grid_start, grid_row, grid_step, grid_end}
use Rattle.net_rows.proofs.points.put_grid.Goals as goal

pub loop-i-init : goal.loop-i-init
loop-i-init g c = grid_start c.args.out.now c.args.from g.row.N c.args.g

pub put_row-requires : goal.put_row-requires
put_row-requires g c =
    grid_row c.args.out.now c.loop-i.out c.args.from _ c.args.g g.row.N c.loop-i.i c.requires.1 c.loop-i-test.true (omega arith) c.requires.0 c.loop-i.invariant

pub loop-i-preserved : goal.loop-i-preserved
loop-i-preserved g c =
    grid_step c.args.out.now c.loop-i.out _ c.args.from (c.args.from + 4 * g.row.N * c.loop-i.i) c.args.g g.row.N c.loop-i.i
    (omega arith) (c.requires.1 c.loop-i.i c.loop-i-test.true) (omega arith) c.loop-i.invariant c.put_row.ensures

pub returns : goal.returns
returns g c = grid_end c.args.out.now c.loop-i.out c.args.from c.args.g g.row.N c.loop-i.i (omega arith) c.loop-i.invariant
