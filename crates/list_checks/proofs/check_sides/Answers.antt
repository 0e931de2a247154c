-- `check_sides` meets its contract: its search tests what fault 5 is.
use mathlib.Core.Path.{◌∙◌}
use Rattle.paper.specs.Mesh.{least_sides, most_sides}
use Rattle.paper.specs.Faults.{outside, fault5}
use Rattle.std.proofs.lemmas.Iterator.{YieldsList-from_slice}
use Rattle.std.proofs.lemmas.Iterator.Search.{position_from_yields_List}
use borrow.Author.Rules.{rules}
use borrow.Author.Tests.{tests}
use Rattle.list_checks.proofs.Laws.{lowest_found}
use Rattle.list_checks.proofs.check_sides.Goals as goal

pub returns : goal.returns
unfolding fault5
returns c =
    let test = outside least_sides most_sides in
    c.at_lowest.ensures ∙ lowest_found 5 test c.args.sides.now 0 c.position-found.result
    (position_from_yields_List test _ _ c.position-found.result c.position-found.ensures.ran (YieldsList-from_slice c.args.sides.now cc) (λ x b q k. search (rules, tests)))
