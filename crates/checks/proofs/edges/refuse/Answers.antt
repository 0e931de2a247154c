-- `refuse` meets its contract: no corner before `c` has the entry.
use mathlib.Core.Path.{sym}
use borrow.Author.Tests.{eq-eqb, ne_eqb}
use Rattle.mesh.proofs.Scans.{fails_step}
use Rattle.mesh.proofs.Verdicts.{lowest_hit, lowest_none}
use Rattle.checks.specs.edges.Entries.{has}
use native.Mathlib.Omega.{arith}
use borrow.Author.Rules.{rules}
use Rattle.checks.proofs.edges.refuse.Goals as goal

pub returns-then-table-c : goal.returns-then-table-c
returns-then-table-c c =
    sym (lowest_hit c.args.number c.args.count (has c.args.table.now c.args.x) c.loop-c.c (search rules) (eq-eqb _ _ c.if-table-c.true) c.loop-c.invariant)

pub loop-c-preserved : goal.loop-c-preserved
loop-c-preserved c =
    fails_step (has c.args.table.now c.args.x) c.loop-c.c c.loop-c.invariant (ne_eqb _ _ c.if-table-c.false)

pub returns : goal.returns
returns c =
    let l = c.loop-c in
    sym (lowest_none c.args.number c.args.count (has c.args.table.now c.args.x) (λ j h. l.invariant j (omega arith)))

pub loop-c-init : goal.loop-c-init
loop-c-init c = λ j l. absurd (omega arith)
