-- `net_rows::rows::a_grid` meets its contract: the law `a_grid_is` reads what the calls give.
use Rattle.net_rows.proofs.rows.Laws.{written, a_grid_is}
use Rattle.net_rows.proofs.rows.a_grid.Goals as goal
use Rattle.net_rows.proofs.rows.a_grid.Goals.{After-half-a00, After-half-a03, After-half-a11, After-half-a12, After-half-a21, After-half-a22, After-half-a30, After-half-a33, Start}

abbrev start : After-half-a03 → Start
start c = search

pub returns : goal.returns
returns c =
    let i = c in
    let h = c in
    let g = c in
    let f = c in
    let e = c in
    let d = c in
    let b = c in
    let a = c in
    let s = c in
    a_grid_is s.args.r0 s.args.r1 s.args.r2 s.args.r3 s.requires _ _ _ _ _ _ _ _ a.half-a00.ensures b.half-a03.ensures d.half-a30.ensures
    e.half-a33.ensures f.half-a11.ensures g.half-a12.ensures h.half-a21.ensures i.half-a22.ensures

pub half-a00-requires : goal.half-a00-requires
half-a00-requires c = search written

pub half-a03-requires : goal.half-a03-requires
half-a03-requires c = search written

pub half-a30-requires : goal.half-a30-requires
half-a30-requires c = search written

pub half-a33-requires : goal.half-a33-requires
half-a33-requires c = search written

pub half-a11-requires : goal.half-a11-requires
half-a11-requires c = let q = c in search written

pub half-a12-requires : goal.half-a12-requires
half-a12-requires c = let q = c in search written

pub half-a21-requires : goal.half-a21-requires
half-a21-requires c = let p = c in let q = (goal.at.half-a21-requires c).After-half-a03 in let s = start q in search written

pub half-a22-requires : goal.half-a22-requires
half-a22-requires c = let p = c in let q = (goal.at.half-a22-requires c).After-half-a03 in let s = start q in search written
