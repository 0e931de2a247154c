-- `all_within` meets its contract: where no number at fault was met, none before `z` is.
use mathlib.Core.Path.{◌≡◌, ◌∙◌, sym}
use mathlib.Core.Bool.{false}
use Rattle.paper.specs.Faults.{fault7}
use Rattle.mesh.proofs.Scans.{clash, fails_step}
use native.Mathlib.Omega.{arith}
use borrow.Author.Rules.{rules}
use borrow.Author.Tests.{tests}
use Rattle.list_checks.proofs.all_within.Goals as goal
use Rattle.list_checks.proofs.all_within.Goals.{then-not-contains, else-not-contains}

pub loop-z-preserved : goal.loop-z-preserved
unfolding fault7
loop-z-preserved c =
    let xs = c.args.coordinates.now in
    λ e. elim c.if-not-contains.branch [
      | then-not-contains w ↦ absurd (clash e w.within-is)
      | else-not-contains w ↦
          let here : fault7 xs c.loop-z.z-index ≡ false = search (rules, tests) in
          fails_step (fault7 xs) c.loop-z.z-index (c.loop-z.invariant (sym w.within-is ∙ e)) here
    ]

pub returns : goal.returns
returns c = let l = c.loop-z in λ e j h. l.invariant e j (omega arith)

pub loop-z-init : goal.loop-z-init
loop-z-init c = λ e j h. absurd (omega arith)
