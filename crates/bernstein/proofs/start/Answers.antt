-- `bernstein::start` meets its contract: the coefficients taper, so they fit.
use mathlib.Core.Path.{sym, ap, ◌∙◌, subst}
use Prim.Native.Nat.{◌^◌}
use Rattle.bernstein.specs.declared.Matrix5.{Matrix5}
use Rattle.bernstein.specs.Sums.{AllSized, states_of}
use Rattle.bernstein.proofs.Laws.{polynomial_tapers}
use Rattle.bernstein.proofs.Tapering.{tapered_sized}
use Rattle.bernstein.proofs.start.Goals as goal

pub states-requires : goal.states-requires
states-requires c =
    subst (λ (r : Matrix5). AllSized (2 ^ 54) r) (sym c.polynomial.ensures)
    (tapered_sized _ (polynomial_tapers c.args.p c.args.n c.requires.0 c.requires.1))

pub returns : goal.returns
returns c = c.states.ensures ∙ ap (λ (r : Matrix5). states_of r 0) c.polynomial.ensures
