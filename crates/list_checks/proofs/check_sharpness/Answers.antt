-- Check 28 meets its contract: a list whose highest number passes has no number at fault; else its search tests what fault 28 is.
use mathlib.Core.Path.{sym, ◌∙◌}
use Prim.Native.Nat.{ℕ, ◌<◌, ◌≤◌}
use native.Mathlib.Omega.{arith}
use lib.Dec.{ltb}
use lib.ListN.{length, get_or}
use Rattle.paper.specs.Mesh.{most_sharpness, plain}
use Rattle.paper.specs.Faults.{fault28}
use Rattle.mesh.proofs.Verdicts.{lowest_none}
use Rattle.std.proofs.lemmas.Iterator.{YieldsList-from_slice}
use Rattle.std.proofs.lemmas.Iterator.Search.{position_from_yields_List}
use borrow.Author.Rules.{rules}
use borrow.Author.Tests.{tests}
use Rattle.list_checks.proofs.Laws.{not_too_sharp, lowest_found}
use Rattle.list_checks.proofs.check_sharpness.Goals as goal

pub returns-then-highest-le-MOST_SHARPNESS : goal.returns-then-highest-le-MOST_SHARPNESS
returns-then-highest-le-MOST_SHARPNESS c = let xs = c.args.sharpness.now in
    let top : (j : ℕ) → j < length xs → get_or xs j 0 ≤ c.unwrap_or-highest.result = search rules in
    sym (lowest_none 28 (length xs) (fault28 xs) (λ j h. not_too_sharp xs j h (omega (arith, top j h, c.if-highest-le-MOST_SHARPNESS.true))))

pub returns : goal.returns
unfolding fault28
returns c =
    let test = ltb most_sharpness in
    c.at_lowest.ensures ∙ lowest_found 28 test c.args.sharpness.now plain c.position-found.result
    (position_from_yields_List test _ _ c.position-found.result c.position-found.ensures.ran (YieldsList-from_slice c.args.sharpness.now cc) (λ x b q k. search (rules, tests)))
