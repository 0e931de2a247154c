-- `net_rows::rows::side_rows` meets its contract: each call is given numbers of its size, and the law `rows_of` reads what the calls give.
use Rattle.net_rows.proofs.rows.Laws.{value, value_written, row, rows_of_lem}
use Rattle.net_rows.proofs.rows.side_rows.Goals as goal
use Rattle.net_rows.proofs.rows.side_rows.Goals.{Start}

pub returns : goal.returns
returns c =
    let v = c in
    let u = c in
    let t = c in
    let q = c in
    let p = c in
    let s = c in
    rows_of_lem s.args.f s.args.g s.args.l s.args.o s.requires _ _ _ _ _ _ p.quarter.ensures q.half.ensures t.quarter-2.ensures
    u.second.ensures v.third.ensures c.middle.ensures

pub quarter-requires : goal.quarter-requires
quarter-requires c = let s = (goal.at.quarter-requires c).Start in search value

pub half-requires : goal.half-requires
half-requires c = let s = (goal.at.half-requires c).Start in search value_written

pub quarter-requires-2 : goal.quarter-requires-2
quarter-requires-2 c = let s = (goal.at.quarter-requires-2 c).Start in search value

pub second-requires : goal.second-requires
second-requires c = let s = (goal.at.second-requires c).Start in search (value, row)

pub third-requires : goal.third-requires
third-requires c = let s = (goal.at.third-requires c).Start in search (value, row)

pub middle-requires : goal.middle-requires
middle-requires c = let s = (goal.at.middle-requires c).Start in search value
