-- Check 8 meets its contract: where the highest vertex that is named passes, no corner is at fault; else its search tests what fault 8 is.
use mathlib.Core.Path.{sym, ◌∙◌}
use Prim.Native.Nat.{ℕ, ◌<◌, ◌≤◌}
use native.Mathlib.Omega.{arith}
use lib.Dec.{leb}
use lib.ListN.{length, get_or}
use borrow.Author.Tests.{lt-leb}
use Rattle.paper.specs.Faults.{fault8}
use Rattle.mesh.proofs.Verdicts.{lowest_none}
use Rattle.std.proofs.lemmas.Iterator.{YieldsList-from_slice}
use Rattle.std.proofs.lemmas.Iterator.Search.{position_from_yields_List}
use borrow.Author.Rules.{rules}
use borrow.Author.Tests.{tests}
use Rattle.list_checks.proofs.Laws.{lowest_found}
use Rattle.list_checks.proofs.check_names.Goals as goal

pub returns-then-from-vertices : goal.returns-then-from-vertices
unfolding fault8
returns-then-from-vertices c = let xs = c.args.corners.now in
    let top : (j : ℕ) → j < length xs → get_or xs j 0 ≤ c.unwrap_or-highest.result = search rules in
    sym (lowest_none 8 (length xs) (fault8 c.args.vertices xs)
    (λ j h. lt-leb c.args.vertices (get_or xs j 0) (omega (arith, top j h, c.from.ensures, c.if-from-vertices.true))))

pub returns : goal.returns
unfolding fault8
returns c =
    let test = leb c.args.vertices in
    c.at_lowest.ensures ∙ lowest_found 8 test c.args.corners.now 0 c.position-found.result
    (position_from_yields_List test _ _ c.position-found.result c.position-found.ensures.ran (YieldsList-from_slice c.args.corners.now cc) (λ x b q k. search (rules, tests)))
