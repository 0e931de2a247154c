-- `group_start` meets its contract.
use native.Mathlib.Omega.{arith}
use mathlib.Core.Path.{refl}
use Rattle.numbering.proofs.Lent.{start_few, group_at}
use Rattle.numbering.proofs.group_start.Goals as goal

pub overflow_add-result : goal.overflow_add-result
overflow_add-result c = omega (arith, start_few c.requires.0.mesh c.requires.0.is c.args.c c.requires.1, c.group_offset-a.ensures.0)

pub returns : goal.returns
returns c = (
  omega (arith, start_few c.requires.0.mesh c.requires.0.is c.args.c c.requires.1, c.group_offset-a.ensures.0),
  λ M t. group_at M t c.args.c c.requires.1 c.args.g _ _ (c.group_offset-a.ensures.1 M t.of) refl,
)
