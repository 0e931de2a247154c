-- `find_link` meets its contract: the tables agree below `c`, and an entry that differs is the lowest fault.
use mathlib.Core.Path.{◌≡◌, sym}
use Rattle.mesh.proofs.Verdicts.{lowest_hit, lowest_none}
use Prim.Native.Nat.{◌<◌}
use lib.ListN.{get_or}
use borrow.Author.Count.{below_more}
use Rattle.paper.specs.Mesh.{corner_count}
use Rattle.paper.specs.Calls.{fault15}
use Rattle.walk.specs.Table.{to_link, entry}
use Rattle.checks.proofs.requests.Laws.{links_differ, links_agree}
use native.Mathlib.Omega.{arith}
use Rattle.checks.proofs.requests.find_link.Goals as goal

pub returns-then-link-table : goal.returns-then-link-table
returns-then-link-table c =
    λ M e t. let h : c.loop-c.c < corner_count M = omega arith in
    sym (lowest_hit 15 (corner_count M) (fault15 M c.args.links.now) c.loop-c.c h
    (links_differ M c.args.table.now c.args.links.now t c.loop-c.c h c.if-link-table.true)
    (λ j k. links_agree M c.args.table.now c.args.links.now t j (omega arith) (c.loop-c.invariant j k)))

pub loop-c-preserved : goal.loop-c-preserved
loop-c-preserved c =
    below_more (λ j. get_or c.args.links.now j 0 ≡ entry c.args.table.now to_link j) c.loop-c.c c.loop-c.invariant c.if-link-table.false

pub returns : goal.returns
returns c =
    let l = c.loop-c in
    λ M e t. sym (lowest_none 15 (corner_count M) (fault15 M c.args.links.now)
    (λ j k. links_agree M c.args.table.now c.args.links.now t j k (l.invariant j (omega arith))))

pub loop-c-init : goal.loop-c-init
loop-c-init c = λ j h. absurd (omega arith)
