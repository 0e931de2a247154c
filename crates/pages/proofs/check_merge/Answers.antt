-- `pages::check_merge` meets its contract: 37 by the sum, then 38 of either page.
use Rattle.std.proofs.Common.{sym, ◌∙◌, arith}
use Rattle.pages.proofs.Checks.{many_both, large_first, large_second, both_pass}
use Rattle.pages.proofs.check_merge.Goals as goal
use Rattle.pages.proofs.check_merge.Goals.{then-is_above-via-then-is_above, then-is_above-via-else-is_above+then-is_above-2}

pub returns-then-saturating_add-gt-MOST_MESHES : goal.returns-then-saturating_add-gt-MOST_MESHES
returns-then-saturating_add-gt-MOST_MESHES c = many_both c.args.page c.args.other (omega arith)

pub returns-then-is_above : goal.returns-then-is_above
returns-then-is_above c = elim c.then-is_above.branch [
  | then-is_above-via-then-is_above w ↦ large_first c.args.page c.args.other (omega arith) (sym w.if-is_above.true ∙ c.is_above.ensures)
  | then-is_above-via-else-is_above+then-is_above-2 w ↦ large_second c.args.page c.args.other (omega arith)
      (sym w.if-is_above.false ∙ c.is_above.ensures) (sym w.if-is_above-2.true ∙ w.is_above-else-is_above.ensures)
]

pub returns : goal.returns
returns c =
    both_pass c.args.page c.args.other (omega arith) (sym c.if-is_above.false ∙ c.is_above.ensures)
    (sym c.if-is_above-2.false ∙ c.is_above-else-is_above.ensures)
