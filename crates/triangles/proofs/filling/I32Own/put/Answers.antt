-- The points of a corner: the net's numbers are those of the list of points.
use mathlib.Core.Path.{sym, subst}
use mathlib.Core.List.{List}
use native.Mathlib.Omega.{arith}
use lib.IntN.{ℤ}
use Rattle.net_points.specs.writing.Shapes.{ShapeAim}
use Rattle.numbering.proofs.Lent.{below_of}
use Rattle.triangles.proofs.Own.{all_is, pointed}
use Rattle.triangles.proofs.filling.I32Own.put.Goals as goal

pub put_net-requires : goal.put_net-requires
put_net-requires c =
    let M = c.requires.given.0.mesh in
    let o = c.requires.given.0.is in (
      c.requires.given.2,
      c.shape_of-shape.ensures.0,
      omega (
        arith,
        c.requires.room M o,
        all_is M c.args.tables.levels.now o.accepted o.leveled c.args.c (below_of M o c.args.c c.requires.given.1) c.shape_of-shape.result
            (c.shape_of-shape.ensures.1 M o),
      ),
    )

pub returns-clause-ends : goal.returns-clause-ends
returns-clause-ends c =
    λ M o.
    omega (
      arith,
      c.size-all.ensures.0,
      all_is M c.args.tables.levels.now o.accepted o.leveled c.args.c (below_of M o c.args.c c.requires.given.1) c.shape_of-shape.result
          (c.shape_of-shape.ensures.1 M o),
    )

pub returns-clause-numbers : goal.returns-clause-numbers
returns-clause-numbers c =
    λ M o e.
    pointed M c.args.tables.levels.now o.accepted o.leveled c.args.c (below_of M o c.args.c c.requires.given.1) c.shape_of-shape.result
    (c.shape_of-shape.ensures.1 M o) c.args.at _ c.args.out.now _
    (omega (
      arith,
      c.requires.room M o,
      all_is M c.args.tables.levels.now o.accepted o.leveled c.args.c (below_of M o c.args.c c.requires.given.1) c.shape_of-shape.result
          (c.shape_of-shape.ensures.1 M o),
    ))
    (omega (arith, c.size-all.ensures.0))
    (λ f aim. c.put_net.ensures f (subst (λ (n : List ℤ). ShapeAim n c.shape_of-shape.result c.args.at f) (sym e) aim))
