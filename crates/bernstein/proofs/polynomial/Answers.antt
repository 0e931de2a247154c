-- `bernstein::polynomial` meets its contract: sixteenfold twice, the differences fit.
use mathlib.Core.Path.{sym, subst}
use Prim.Native.Nat.{◌^◌}
use Rattle.bernstein.specs.declared.Matrix5.{Matrix5}
use Rattle.bernstein.specs.Sums.{AllSized}
use Rattle.bernstein.proofs.Laws.{slopes_size, columns_size, weights_size, polynomial_is}
use Rattle.bernstein.proofs.polynomial.Goals as goal

module _ (c : goal.After-slopes-d) where
  sloped : AllSized (2 ^ 31) c.slopes-d.result
  sloped = subst (λ (r : Matrix5). AllSized (2 ^ 31) r) (sym c.slopes-d.ensures) (slopes_size c.args.p (2 ^ 27) c.requires.0)

module _ (c : goal.After-columns-c) where
  turned : AllSized (2 ^ 31) c.columns-c.result
  turned = subst (λ (r : Matrix5). AllSized (2 ^ 31) r) (sym c.columns-c.ensures) (columns_size c.slopes-d.result (2 ^ 31) (sloped (search)))

pub scaled-requires : goal.scaled-requires
scaled-requires c = (
  subst (λ (r : Matrix5). AllSized (2 ^ 35) r) (sym c.slopes-g.ensures) (slopes_size c.columns-c.result (2 ^ 31) (turned (search))),
  subst (λ (r : Matrix5). AllSized (2 ^ 16) r) (sym c.weights-w.ensures) (weights_size c.args.p c.args.n c.requires.0 c.requires.1),
)

pub columns-c-requires : goal.columns-c-requires
columns-c-requires c = sloped c

pub slopes-g-requires : goal.slopes-g-requires
slopes-g-requires c = turned c

pub returns : goal.returns
returns c = search polynomial_is
