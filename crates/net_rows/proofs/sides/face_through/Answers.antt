-- `net_rows::sides::face_through` meets its contract: the points are read, and the law `through` reads what the formulas give.
use Rattle.surface.specs.Points.{point_at}
use Rattle.faces.proofs.Few.{read}
use Rattle.net_rows.proofs.rows.Laws.{ReadAs}
use Rattle.net_rows.proofs.sides.Laws.{through}
use Rattle.net_rows.proofs.sides.face_through.Goals as goal
use Rattle.net_rows.proofs.sides.face_through.Goals.{After-point-v, After-point-y, Start}

-- the points, as they are read
module _ (c : After-point-y) where
  abbrev s : Start
  s = search

  abbrev a : After-point-v
  a = search

  first : ReadAs a.point-v.result (point_at s.args.stencil.now s.args.k s.args.a)
  first = read _ _ a.point-v.ensures s.requires.0.1

  second : ReadAs c.point-w.result (point_at s.args.stencil.now s.args.k s.args.b)
  second = read _ _ c.point-w.ensures s.requires.1.1

  third : ReadAs c.point-x.result (point_at s.args.stencil.now s.args.k s.args.c)
  third = read _ _ c.point-x.ensures s.requires.2.1

  fourth : ReadAs c.point-y.result (point_at s.args.stencil.now s.args.k s.args.d)
  fourth = read _ _ c.point-y.ensures s.requires.3.1

pub returns : goal.returns
returns c =
    let p = (goal.at.returns c).After-point-y in
    through _ _ _ _ _ (a p).point-v.result p.point-w.result p.point-x.result p.point-y.result _ _ _ (first p).0
    (second p).0 (third p).0 (fourth p).0 c.mean.ensures c.toward.ensures c.toward-2.ensures

pub mean-requires : goal.mean-requires
mean-requires c = ((first (goal.at.mean-requires c).After-point-y).1, (second (goal.at.mean-requires c).After-point-y).1, (third (goal.at.mean-requires c).After-point-y).1, (fourth (goal.at.mean-requires c).After-point-y).1)

pub toward-requires : goal.toward-requires
toward-requires c = let p = c in ((first (goal.at.toward-requires c).After-point-y).1, (second (goal.at.toward-requires c).After-point-y).1, (third (goal.at.toward-requires c).After-point-y).1, (fourth (goal.at.toward-requires c).After-point-y).1)

pub toward-requires-2 : goal.toward-requires-2
toward-requires-2 c = let p = c in ((fourth (goal.at.toward-requires-2 c).After-point-y).1, (first (goal.at.toward-requires-2 c).After-point-y).1, (second (goal.at.toward-requires-2 c).After-point-y).1, (third (goal.at.toward-requires-2 c).After-point-y).1)
