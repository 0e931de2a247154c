-- Check 22 meets its contract: no body before `b` is at fault.
use mathlib.Core.Path.{sym}
use Rattle.paper.specs.Nesting.{fault22}
use Rattle.mesh.proofs.Scans.{fails_step}
use Rattle.mesh.proofs.Verdicts.{lowest_hit, lowest_none}
use Rattle.nesting.proofs.Laws.{no_holder, a_body, the_sun}
use native.Mathlib.Omega.{arith}
use Rattle.nesting.proofs.check_holders.Goals as goal
use Rattle.nesting.proofs.check_holders.Goals.{else-holders-h-via-then-holders-h+else-h, else-holders-h-via-else-holders-h}

pub returns-then-h : goal.returns-then-h
returns-then-h c =
    let h = c.loop-b-test.true in
    sym (lowest_hit 22 _ _ _ h (no_holder _ _ h c.if-holders-h.true c.if-h.true) c.loop-b.invariant)

pub loop-b-preserved : goal.loop-b-preserved
loop-b-preserved c =
    let xs = c.args.holders.now in
    let b = c.loop-b.b in
    let h = c.loop-b-test.true in
    fails_step (fault22 xs) b c.loop-b.invariant
    (elim c.else-holders-h.branch [
      | else-holders-h-via-then-holders-h+else-h w ↦ the_sun xs b h w.if-h.false
      | else-holders-h-via-else-holders-h w ↦ a_body xs b h w.if-holders-h.false
    ])

pub loop-b-init : goal.loop-b-init
loop-b-init c = λ j h. absurd (omega arith)

pub overflow_cast-h : goal.overflow_cast-h
overflow_cast-h c = omega (arith, c.type_inv.holders c.loop-b.b)

pub returns : goal.returns
returns c = sym (lowest_none 22 _ _ (λ j h. c.loop-b.invariant j (omega arith)))
