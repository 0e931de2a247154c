-- `pages::some_above` meets its contract: a number is above 2^40 where any is.
use Rattle.std.proofs.Common.{◌∙◌, rules, ltb}
use borrow.Author.Tests.{tests}
use Rattle.std.proofs.lemmas.Iterator.{YieldsList-from_slice}
use Rattle.std.proofs.lemmas.Iterator.Search.{any_from_yields_List}
use Rattle.paper.specs.Report.{most_on_page}
use Rattle.pages.proofs.Checks.{any_above}
use Rattle.pages.proofs.some_above.Goals as goal

pub returns : goal.returns
returns c =
    any_from_yields_List (λ n. ltb most_on_page n) _ _ c.any.result c.any.ensures.ran (YieldsList-from_slice c.args.numbers.now cc)
    (λ x b q k. search (rules, tests)) ∙ any_above c.args.numbers.now
