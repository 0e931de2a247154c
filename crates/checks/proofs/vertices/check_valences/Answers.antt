-- Check 12 meets its contract: no vertex before `u` is at fault.
use mathlib.Core.Path.{sym}
use Prim.Native.Nat.{◌≤◌}
use Rattle.paper.specs.Mesh.{least_sides, most_sides}
use Rattle.paper.specs.Faults.{fault12}
use Rattle.mesh.proofs.Ranges.{inside}
use Rattle.list_checks.proofs.Laws.{out_of}
use Rattle.mesh.proofs.Scans.{fails_step}
use Rattle.mesh.proofs.Verdicts.{lowest_hit, lowest_none}
use Rattle.checks.specs.columns.Vertices.{count_here, noted}
use native.Mathlib.Omega.{arith}
use borrow.Author.Rules.{rules}
use Rattle.checks.proofs.vertices.check_valences.Goals as goal

pub returns-then-not-contains : goal.returns-then-not-contains
unfolding fault12
returns-then-not-contains c =
    let l = c.loop-u in
    let n = noted c.args.vertices.now count_here l.u in
    let far : least_sides ≤ n → n ≤ most_sides → ⊥ = λ a b. search rules in
    sym (lowest_hit 12 c.args.count (fault12 c.args.corners.now) l.u (search rules)
    (rw (← c.requires.2.count_is l.u) (out_of least_sides most_sides n far)) l.invariant)

pub loop-u-preserved : goal.loop-u-preserved
unfolding fault12
loop-u-preserved c =
    let l = c.loop-u in
    let n = noted c.args.vertices.now count_here l.u in
    let near : (least_sides ≤ n) × (n ≤ most_sides) = search rules in
    fails_step (fault12 c.args.corners.now) l.u l.invariant (rw (← c.requires.2.count_is l.u) (inside least_sides most_sides n near.0 near.1))

pub returns : goal.returns
returns c =
    let l = c.loop-u in
    sym (lowest_none 12 c.args.count (fault12 c.args.corners.now) (λ j h. l.invariant j (omega arith)))

pub loop-u-init : goal.loop-u-init
loop-u-init c = λ j l. absurd (omega arith)
