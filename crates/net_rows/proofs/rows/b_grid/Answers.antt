-- `net_rows::rows::b_grid` meets its contract: the law `b_grid_is` reads what the calls give.
use Rattle.net_rows.proofs.rows.Laws.{written, b_grid_is}
use Rattle.net_rows.proofs.rows.b_grid.Goals as goal

pub returns : goal.returns
returns c =
    let f = c in
    let e = c in
    let d = c in
    let b = c in
    let a = c in
    let s = c in
    let k = s.ranges in
    b_grid_is s.args.e0 s.args.e1 s.args.e2 s.args.e3 k.e0 k.e1 k.e2 k.e3 s.args.r0 s.args.r1 s.args.r2 s.args.r3
    s.requires.0 s.args.a s.requires.1 s.requires.2 _ _ _ _ _ a.half-b11.ensures b.half-b13.ensures d.half-b31.ensures e.half-b33.ensures
    f.half-b22.ensures

pub half-b11-requires : goal.half-b11-requires
half-b11-requires c = search written

pub half-b13-requires : goal.half-b13-requires
half-b13-requires c = search written

pub half-b31-requires : goal.half-b31-requires
half-b31-requires c = search written

pub half-b33-requires : goal.half-b33-requires
half-b33-requires c = let q = c in search written

pub half-b22-requires : goal.half-b22-requires
half-b22-requires c = let p = c in let q = c in search written
