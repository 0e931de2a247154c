-- `centreward` meets its contract: on sides 1 and 3 less the derivative by j.
use mathlib.Core.Path.{sym, ◌∙◌, subst}
use Prim.Native.Nat.{◌%◌, ◌^◌}
use native.Mathlib.Omega.{arith}
use borrow.Author.Tests.{eq-eqb, ne_eqb}
use Rattle.bernstein.specs.declared.Matrix5.{Matrix5}
use Rattle.bernstein.specs.Sums.{AllSized}
use Rattle.bernstein.specs.Tangents.{along_of, inward_of}
use Rattle.bernstein.proofs.Tapering.{along_tapers, inward_tapers, tapered_sized}
use Rattle.net_tangents.specs.Lanes.{minus_of, centreward_of}
use Rattle.net_tangents.proofs.centreward.Goals as goal

pub minus-requires : goal.minus-requires
minus-requires c = (
  subst (λ (m : Matrix5). AllSized (2 ^ 54) m) (sym c.inward-b.ensures) (tapered_sized (inward_of c.args.c) (inward_tapers c.args.c c.requires)),
  subst (λ (m : Matrix5). AllSized (2 ^ 54) m) (sym c.along.ensures) (tapered_sized (along_of c.args.c) (along_tapers c.args.c c.requires)),
)

pub returns-then-side-eq1 : goal.returns-then-side-eq1
unfolding centreward_of
returns-then-side-eq1 c =
    rw (eq-eqb (c.args.side % 2) 1 (omega arith)) (c.minus.ensures ∙ (λ z. minus_of (c.inward-b.ensures z) (c.along.ensures z)))

pub returns : goal.returns
unfolding centreward_of
returns c =
    rw (ne_eqb (c.args.side % 2) 1 c.if-side-eq1.false) c.inward-b.ensures
