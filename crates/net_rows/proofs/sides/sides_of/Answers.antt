-- `net_rows::sides::sides_of` meets its contract: each side is made from numbers of its sizes, which are those of the definitions.
use mathlib.Core.Path.{◌∙◌}
use lib.Dec.{lit<}
use Rattle.paper.specs.Net.{side0, side1, side2, side3, H, T, C}
use Rattle.surface.specs.Points.{point_at}
use Rattle.faces.proofs.Few.{read}
use Rattle.net_rows.proofs.rows.Laws.{ReadAs, row, row_is}
use Rattle.net_rows.proofs.sides.Laws.{face, face_is, refined, refined_is, leaving_is, arriving_is, side_is}
use Rattle.net_rows.proofs.sides.sides_of.Goals as goal
use Rattle.net_rows.proofs.sides.sides_of.Goals.{After-face_through-e, After-face_through-g, After-point-back, After-point-here, After-point-next, After-side, After-side-2, After-side-3, Start}

-- the five points, as they are read
module _ (c : After-point-back) where
  abbrev s : Start
  s = search

  abbrev a : After-point-here
  a = search

  abbrev b : After-point-next
  b = search

  here : ReadAs a.point-here.result (point_at s.args.stencil.now s.args.k 0)
  here = read _ _ a.point-here.ensures (s.requires.rows 0 (lit< tt)).1

  next : ReadAs b.point-next.result (point_at s.args.stencil.now s.args.k 1)
  next = read _ _ b.point-next.ensures (s.requires.rows 1 (lit< tt)).1

  link : ReadAs c.point-link.result (point_at s.args.stencil.now s.args.k 3)
  link = read _ _ c.point-link.ensures (s.requires.rows 3 (lit< tt)).1

  across : ReadAs c.point-across.result (point_at s.args.stencil.now s.args.k 4)
  across = read _ _ c.point-across.ensures (s.requires.rows 4 (lit< tt)).1

  previous : ReadAs c.point-back.result (point_at s.args.stencil.now s.args.k 6)
  previous = read _ _ c.point-back.ensures (s.requires.rows 6 (lit< tt)).1

pub side-requires : goal.side-requires
side-requires c =
    let q = (goal.at.side-requires c).After-point-back in
    let z = (s q).requires.rings in
    let l = c in
    let e = l.face_through-e.ensures.sized in
    let v = (s q).args.v in
    let r = l.face_through-e.result in
    (refined v.centre z.0.centre, refined r.centre e.centre, face v.ahead z.0.ahead, face r.behind e.behind, (here q).1, (link q).1, row _ z.2)

pub side-requires-2 : goal.side-requires-2
side-requires-2 c =
    let q = (goal.at.side-requires-2 c).After-point-back in
    let z = (s q).requires.rings in
    let l = c in
    let e = l.face_through-e.ensures.sized in
    let f = (s q).args.f in
    let r = l.face_through-e.result in
    (refined f.centre z.1.centre, refined r.centre e.centre, face f.ahead z.1.ahead, face r.ahead e.ahead, (here q).1, (next q).1, row _ z.3)

pub side-requires-3 : goal.side-requires-3
side-requires-3 c =
    let q = (goal.at.side-requires-3 c).After-point-back in
    let z = (s q).requires.rings in
    let l = c in
    let g = l.face_through-g.ensures.sized in
    let f = (s q).args.f in
    let r = l.face_through-g.result in
    (refined f.centre z.1.centre, refined r.centre g.centre, face f.behind z.1.behind, face r.behind g.behind, (here q).1, (previous q).1, row _ z.3)

pub side-requires-4 : goal.side-requires-4
side-requires-4 c =
    let s0 = c in let q = (goal.at.side-requires-4 c).After-point-back in
    let z = (s q).requires.rings in
    let l = c in
    let g = l.face_through-g.ensures.sized in
    let v = (s q).args.v in
    let r = l.face_through-g.result in
    (refined v.centre z.0.centre, refined r.centre g.centre, face v.behind z.0.behind, face r.ahead g.ahead, (here q).1, (across q).1, row _ z.2)

pub returns : goal.returns
unfolding H T C
returns c =
    let s2 = c in
    let s1 = c in
    let s0 = c in
    let q = (goal.at.returns c).After-point-back in
    let a = c in
    let l = c in
    let z = (s q).requires.rings in
    let e = l.face_through-e.ensures in
    let g = a.face_through-g.ensures in
    record {
      four = λ K d r v f.
          let le = leaving_is K d _ r _ e in
          let ar = arriving_is K d _ r _ g in
          record {
            side0 = side_is K d side0 _ _ _ _ _ _ _ _
                (record {
                  head = refined_is _ _ z.0.centre v.centre;
                  tail = refined_is _ _ e.sized.centre le.0;
                  x = face_is _ _ z.0.ahead v.ahead;
                  y = face_is _ _ e.sized.behind le.1;
                  here = (here q).0 ∙ r.points 0 (lit< tt);
                  there = (link q).0 ∙ r.points 3 (lit< tt);
                  cosine = row_is _ _ z.2 v.cosine;
                })
                s0.side.ensures;
            side1 = side_is K d side1 _ _ _ _ _ _ _ _
                (record {
                  head = refined_is _ _ z.1.centre f.centre;
                  tail = refined_is _ _ e.sized.centre le.0;
                  x = face_is _ _ z.1.ahead f.ahead;
                  y = face_is _ _ e.sized.ahead le.2;
                  here = (here q).0 ∙ r.points 0 (lit< tt);
                  there = (next q).0 ∙ r.points 1 (lit< tt);
                  cosine = row_is _ _ z.3 f.cosine;
                })
                s1.side-2.ensures;
            side2 = side_is K d side2 _ _ _ _ _ _ _ _
                (record {
                  head = refined_is _ _ z.1.centre f.centre;
                  tail = refined_is _ _ g.sized.centre ar.0;
                  x = face_is _ _ z.1.behind f.behind;
                  y = face_is _ _ g.sized.behind ar.1;
                  here = (here q).0 ∙ r.points 0 (lit< tt);
                  there = (previous q).0 ∙ r.points 6 (lit< tt);
                  cosine = row_is _ _ z.3 f.cosine;
                })
                s2.side-3.ensures;
            side3 = side_is K d side3 _ _ _ _ _ _ _ _
                (record {
                  head = refined_is _ _ z.0.centre v.centre;
                  tail = refined_is _ _ g.sized.centre ar.0;
                  x = face_is _ _ z.0.behind v.behind;
                  y = face_is _ _ g.sized.ahead ar.2;
                  here = (here q).0 ∙ r.points 0 (lit< tt);
                  there = (across q).0 ∙ r.points 4 (lit< tt);
                  cosine = row_is _ _ z.2 v.cosine;
                })
                c.side-4.ensures;
          };
      sized = record {
        side0 = s0.side.ensures.sized;
        side1 = s1.side-2.ensures.sized;
        side2 = s2.side-3.ensures.sized;
        side3 = c.side-4.ensures.sized;
      };
    }

pub face_through-e-requires : goal.face_through-e-requires
face_through-e-requires c = let r = c.requires.rows in (r 0 (lit< tt), r 1 (lit< tt), r 2 (lit< tt), r 3 (lit< tt))

pub face_through-g-requires : goal.face_through-g-requires
face_through-g-requires c = let r = c.requires.rows in (r 0 (lit< tt), r 4 (lit< tt), r 5 (lit< tt), r 6 (lit< tt))

pub point-here-requires : goal.point-here-requires
point-here-requires c = let s = c in (s.requires.rows 0 (lit< tt)).0

pub point-next-requires : goal.point-next-requires
point-next-requires c = let s = c in (s.requires.rows 1 (lit< tt)).0

pub point-link-requires : goal.point-link-requires
point-link-requires c = let s = c in (s.requires.rows 3 (lit< tt)).0

pub point-across-requires : goal.point-across-requires
point-across-requires c = let s = c in (s.requires.rows 4 (lit< tt)).0

pub point-back-requires : goal.point-back-requires
point-back-requires c = let s = c in (s.requires.rows 6 (lit< tt)).0
