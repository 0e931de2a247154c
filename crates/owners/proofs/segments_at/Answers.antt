-- `segments_at` meets its contract: the larger of two levels.
use mathlib.Core.Path.{◌∙◌}
use native.Mathlib.Omega.{arith}
use Rattle.owners.proofs.Walked.{segments_max}
use Rattle.owners.proofs.Neighbours.{beside_below}
use Rattle.paper.specs.Sampling.{side_at}
use Rattle.owners.proofs.segments_at.Goals as goal

pub level_at-m-requires : goal.level_at-m-requires
level_at-m-requires c = let p = c.requires.0 in omega (arith, p.many, c.beside-d.ensures p.mesh p.here, beside_below p.mesh p.here.accepted c.args.c p.here.below (side_at c.args.side))

pub returns : goal.returns
returns c =
    let p = c.requires.0 in
    let d = c.beside-d.ensures p.mesh p.here in
    let v = p.leveled c.args.c p.here.below in
    let w = p.leveled c.beside-d.result (omega (arith, d, beside_below _ p.here.accepted _ p.here.below (side_at c.args.side))) in (
      omega (arith, v.0),
      omega (arith, v.1, w.1),
      λ M h. c.max.ensures ∙ segments_max M _ _ _ _ _ _ (c.beside-d.ensures M h) c.level_at-n.ensures c.level_at-m.ensures,
    )
