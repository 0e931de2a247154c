-- `bernstein::state_at` meets its contract: after x turns the state is that at x.
use mathlib.Core.Path.{◌≡◌, sym, ap, ◌∙◌, subst}
use Prim.Native.Nat.{◌*◌, ◌^◌}
use native.Mathlib.Omega.{arith}
use lib.Dec.{lit≤}
use Rattle.bernstein.specs.declared.Vector5.{Vector5}
use Rattle.bernstein.specs.Sums.{Sized, state_of, step_of}
use Rattle.bernstein.proofs.Laws.{state_size, tapered_size}
use Rattle.bernstein.proofs.Identity.{state_step}
use Rattle.bernstein.proofs.state_at.Goals as goal
use Rattle.bernstein.proofs.state_at.Goals.{At-loop-x}

module _ (t : At-loop-x) where
  is : t.loop-x.g ≡ state_of t.args.e t.loop-x.x
  is = t.loop-x.invariant _ t.ahead-g.ensures

  sized : Sized (2 ^ 60) t.loop-x.g
  sized =
      subst (λ (g : Vector5). Sized (2 ^ 60) g) (sym is)
      (state_size t.args.e t.loop-x.x (5 * 2 ^ 34) (omega (arith, t.loop-x.auto.x-end, t.requires.1)) t.requires.0 (lit≤ tt))

pub ahead-g-requires : goal.ahead-g-requires
ahead-g-requires c = tapered_size c.args.e (5 * 2 ^ 34) c.requires.0 (lit≤ tt)

pub loop-x-preserved : goal.loop-x-preserved
loop-x-preserved c =
    λ e h. c.step-g.ensures ∙ ap step_of (c.loop-x.invariant e h) ∙ state_step e c.loop-x.x

pub returns : goal.returns
returns c =
    is (search) ∙ ap (state_of c.args.e) (omega arith)

pub loop-x-init : goal.loop-x-init
loop-x-init c = λ e h. h

pub step-g-requires : goal.step-g-requires
step-g-requires c = sized (search)
