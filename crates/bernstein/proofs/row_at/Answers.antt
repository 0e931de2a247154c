-- `bernstein::row_at` meets its contract: the row of the polynomial.
use mathlib.Core.Path.{sym, ap, ◌∙◌, subst}
use Rattle.bernstein.specs.declared.Matrix5.{Matrix5}
use Rattle.bernstein.specs.Sums.{AllTapered, row_of}
use Rattle.bernstein.proofs.Laws.{polynomial_tapers}
use Rattle.bernstein.proofs.row_at.Goals as goal

pub row_in-requires : goal.row_in-requires
row_in-requires c = (
  subst (λ (r : Matrix5). AllTapered r) (sym c.polynomial.ensures) (polynomial_tapers c.args.p c.args.n c.requires.0 c.requires.2),
  c.requires.1,
)

pub returns : goal.returns
returns c = c.row_in.ensures ∙ ap (λ (r : Matrix5). row_of r c.args.k) c.polynomial.ensures
