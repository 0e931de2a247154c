-- `less` meets its contract: the differences fit.
use Rattle.bernstein.proofs.Identity.{vector5_same}
use Rattle.net_tangents.specs.Lanes.{less_of}
use Rattle.net_tangents.proofs.Laws.{difference_stored}
use Rattle.net_tangents.proofs.less.Goals as goal

pub returns : goal.returns
unfolding less_of
returns c =
    let u = c.args.u in let v = c.args.v in
    let f = c.requires.0 in let g = c.requires.1 in
    vector5_same (difference_stored u.a v.a f.0 g.0).1 (difference_stored u.b v.b f.1 g.1).1 (difference_stored u.c v.c f.2 g.2).1
    (difference_stored u.d v.d f.3 g.3).1 (difference_stored u.e v.e f.4 g.4).1
