-- `tailward` meets its contract: on sides 1 and 3 zero_matrix less the derivative.
use mathlib.Core.Path.{sym, ap, ◌∙◌, subst}
use Prim.Native.Nat.{◌%◌, ◌^◌}
use native.Mathlib.Omega.{arith}
use borrow.Author.Rules.{rules}
use borrow.Author.Tests.{eq-eqb, ne_eqb}
use Rattle.bernstein.specs.declared.Matrix5.{Matrix5}
use Rattle.bernstein.specs.Sums.{AllSized}
use Rattle.bernstein.specs.Tangents.{along_of}
use Rattle.bernstein.proofs.Tapering.{along_tapers, tapered_sized}
use Rattle.net_tangents.specs.Lanes.{minus_of, zero_matrix, tailward_of}
use Rattle.net_tangents.proofs.tailward.Goals as goal

pub minus-requires : goal.minus-requires
minus-requires c = (
  search rules,
  subst (λ (m : Matrix5). AllSized (2 ^ 54) m) (sym c.along-a.ensures) (tapered_sized (along_of c.args.c) (along_tapers c.args.c c.requires)),
)

pub returns-then-side-eq1 : goal.returns-then-side-eq1
unfolding tailward_of
returns-then-side-eq1 c =
    rw (eq-eqb (c.args.side % 2) 1 (omega arith)) (c.minus.ensures ∙ ap (λ (d : Matrix5). minus_of zero_matrix d) c.along-a.ensures)

pub returns : goal.returns
unfolding tailward_of
returns c =
    rw (ne_eqb (c.args.side % 2) 1 c.if-side-eq1.false) c.along-a.ensures
