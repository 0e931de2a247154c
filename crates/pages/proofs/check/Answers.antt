-- `pages::check` meets its contract: 37, then 38.
use mathlib.Core.Path.{sym, ◌∙◌}
use Rattle.pages.proofs.Checks.{many, large, passes}
use borrow.Author.Rules.{rules}
use Rattle.pages.proofs.check.Goals as goal

pub returns-then-page-ge-MOST_MESHES : goal.returns-then-page-ge-MOST_MESHES
returns-then-page-ge-MOST_MESHES c = many c.args.page (search rules)

pub returns-then-is_above : goal.returns-then-is_above
returns-then-is_above c = large c.args.page (search rules) (sym c.if-is_above.true ∙ c.is_above.ensures)

pub returns : goal.returns
returns c = passes c.args.page (search rules) (sym c.if-is_above.false ∙ c.is_above.ensures)
