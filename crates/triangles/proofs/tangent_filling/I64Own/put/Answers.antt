-- The tangents of a corner: the net's tangents are those of the list of tangents.
use native.Mathlib.Omega.{arith}
use Rattle.numbering.proofs.Lent.{below_of, here_of}
use Rattle.triangles.proofs.Own.{all_is}
use Rattle.triangles.proofs.tangent_filling.Laws.{paired}
use Rattle.triangles.proofs.tangent_filling.I64Own.put.Goals as goal

pub put_pairs-requires-clause-room : goal.put_pairs-requires-clause-room
put_pairs-requires-clause-room c =
    let M = c.requires.given.0.mesh in
    let o = c.requires.given.0.is in
    omega (
      arith,
      c.requires.room M o,
      all_is M c.args.tables.levels.now o.accepted o.leveled c.args.c (below_of M o c.args.c c.requires.given.1) c.shape_of-shape.result
          (c.shape_of-shape.ensures.1 M o),
    )

pub returns-clause-ends : goal.returns-clause-ends
returns-clause-ends c =
    λ M o.
    omega (
      arith,
      c.size-all.ensures.0,
      all_is M c.args.tables.levels.now o.accepted o.leveled c.args.c (below_of M o c.args.c c.requires.given.1) c.shape_of-shape.result
          (c.shape_of-shape.ensures.1 M o),
    )

pub returns-clause-numbers : goal.returns-clause-numbers
returns-clause-numbers c =
    λ M o e.
    paired M c.args.tables.levels.now o.accepted o.leveled c.args.c (below_of M o c.args.c c.requires.given.1) c.shape_of-shape.result
    (c.shape_of-shape.ensures.1 M o) c.segments_at-third.result (c.segments_at-third.ensures.2 M (here_of M o c.args.c c.requires.given.1))
    c.args.numbers.now e c.args.at _ c.args.out.now _ (omega (arith, c.size-all.ensures.0)) c.put_pairs.ensures
