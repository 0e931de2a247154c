-- Check 7 meets its contract: where each coordinate passes, none is at fault; else its search tests what fault 7 is.
use mathlib.Core.Path.{sym, ◌∙◌}
use mathlib.Core.Bool.{◌||◌}
use lib.ListN.{length}
use lib.IntN.{ℤ, pos, negsuc}
use lib.Signed.{lt_z}
use Rattle.paper.specs.Mesh.{most_coordinate}
use Rattle.paper.specs.Faults.{fault7}
use Rattle.mesh.proofs.Verdicts.{lowest_none}
use Rattle.std.proofs.lemmas.Iterator.{YieldsList-from_slice}
use Rattle.std.proofs.lemmas.Iterator.Search.{position_from_yields_List}
use borrow.Author.Rules.{rules}
use borrow.Author.Tests.{tests}
use Rattle.list_checks.proofs.Laws.{lowest_found}
use Rattle.list_checks.proofs.check_coordinates.Goals as goal

pub returns-then-all_within : goal.returns-then-all_within
returns-then-all_within c =
    let xs = c.args.coordinates.now in
    sym (lowest_none 7 (length xs) (fault7 xs) (c.all_within.ensures c.if-all_within.true))

pub returns : goal.returns
unfolding fault7
returns c =
    let test = λ (z : ℤ). lt_z z (negsuc 65535) || lt_z (pos most_coordinate) z in
    c.at_lowest.ensures ∙ lowest_found 7 test c.args.coordinates.now (pos 0) c.position-found.result
    (position_from_yields_List test _ _ c.position-found.result c.position-found.ensures.ran (YieldsList-from_slice c.args.coordinates.now cc) (λ x b q k. search (rules, tests)))
