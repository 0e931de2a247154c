-- `arrange` meets its contract: before each turn k bodies are listed and marked; it stops where all are, or where none may come next.
use Rattle.paper.specs.Nesting.{places}
use Rattle.nesting.proofs.Laws.{filling_none, filling_step, filled}
use native.Mathlib.Omega.{arith}
use Rattle.nesting.proofs.arrange.Goals as goal

pub returns-in_default : goal.returns-in_default
returns-in_default c =
    let f = c.loop-k.invariant in
    let none = c.in_default.ensures (places c.args.holders.now c.loop-k.k) f.marks_are in
    filled f c.requires.few c.requires.held (λ z. omega (arith, none))

pub loop-k-preserved : goal.loop-k-preserved
loop-k-preserved c =
    let f = c.loop-k.invariant in
    let told = c.in-Some.ensures (places c.args.holders.now c.loop-k.k) f.marks_are in
    filling_step f told.1 told.0 (omega (arith, told, c.requires.marks_room)) (omega (arith, c.requires.order_room))

pub returns : goal.returns
returns c =
    filled c.loop-k.invariant c.requires.few c.requires.held (λ z. absurd (omega arith))

pub loop-k-init : goal.loop-k-init
loop-k-init c = filling_none _ _ _ c.requires.blank
