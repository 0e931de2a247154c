-- `copy_six` meets its contract: before each turn the numbers before are copied.
use Prim.Native.Nat.{◌+◌}
use native.Mathlib.Omega.{arith}
use borrow.Author.Rules.{rules}
use lib.ListN.{get_or}
use lib.IntN.{pos}
use mir.Syntax.{w64}
use mir.Val.{SFits}
use mir.Facts.{to_z-of_z}
use Rattle.strips.proofs.Rowed.{fills_none}
use Rattle.net_tangents.proofs.Laws.{copy_step}
use Rattle.net_tangents.proofs.copy_six.Goals as goal

pub loop-e-init : goal.loop-e-init
loop-e-init c = fills_none _ _ _

pub loop-e-preserved : goal.loop-e-preserved
loop-e-preserved c =
    let fits : SFits w64 (get_or c.args.list.now (c.args.from + c.loop-e.e) (pos 0)) = search rules in
    copy_step (λ x. get_or c.args.list.now (c.args.from + x) (pos 0)) c.args.at c.loop-e.e c.args.out.now c.loop-e.out
    _ (omega arith) (to_z-of_z fits) c.loop-e.invariant
