-- `pages::is_above` meets its contract: the counts, the refusals, the misses.
use Rattle.std.proofs.Common.{◌≡◌, sym, ◌∙◌, true, false}
use Rattle.pages.proofs.Checks.{above_counts, above_refusals, above_misses}
use Rattle.pages.proofs.is_above.Goals as goal
use Rattle.pages.proofs.is_above.Goals.{then-some_above, else-some_above}

pub returns-then-some_above-2 : goal.returns-then-some_above-2
returns-then-some_above-2 c = c.if-some_above-2.true ∙ elim c.if-some_above.branch [
  | then-some_above w ↦ above_counts c.args.page (sym c.some_above.ensures ∙ w.if-some_above.true)
  | else-some_above w ↦ above_refusals c.args.page (sym c.some_above.ensures ∙ w.if-some_above.false)
      (sym w.some_above-else-some_above.ensures ∙ sym w.value-is ∙ c.if-some_above-2.true)
]

pub returns-else-some_above-2 : goal.returns-else-some_above-2
returns-else-some_above-2 c = c.some_above-else-some_above-2.ensures ∙ elim c.if-some_above.branch [
  | then-some_above w ↦ absurd (let q : false ≡ true = sym c.if-some_above-2.false ∙ w.value-is ∙ w.if-some_above.true in cc)
  | else-some_above w ↦ above_misses c.args.page (sym c.some_above.ensures ∙ w.if-some_above.false)
      (sym w.some_above-else-some_above.ensures ∙ sym w.value-is ∙ c.if-some_above-2.false)
]
