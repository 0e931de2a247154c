-- `curve_start` meets its contract, side by side.
use native.Mathlib.Omega.{arith}
use Rattle.paper.specs.Sampling.{side_at}
use Rattle.numbering.proofs.Lent.{given_of, here_of, beside_in}
use Rattle.numbering.proofs.curve_start.Goals as goal

pub group_start-requires-then-side-eq2 : goal.group_start-requires-then-side-eq2
group_start-requires-then-side-eq2 c = let g = given_of c.requires.0 in (c.requires.0, beside_in g.mesh g.is c.args.c c.requires.1 (side_at c.args.side) _ (c.beside-d.ensures g.mesh (here_of g.mesh g.is c.args.c c.requires.1)), omega arith)

pub group_start-requires-2 : goal.group_start-requires-2
group_start-requires-2 c = let g = given_of c.requires.0 in (c.requires.0, beside_in g.mesh g.is c.args.c c.requires.1 (side_at c.args.side) _ (c.beside-d.ensures g.mesh (here_of g.mesh g.is c.args.c c.requires.1)), omega arith)
