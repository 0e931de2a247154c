-- Check 6 meets its contract: the side counts are summed.
use mathlib.Core.Path.{◌≡◌, ◌∙◌, sym}
use Rattle.paper.specs.Corners.{sum_of}
use Rattle.std.proofs.lemmas.Iterator.{YieldsList-from_slice, YieldsList-from_map}
use Rattle.std.proofs.lemmas.Iterator.Consumers.{YieldsList-at, sum_by_from_yields_List}
use borrow.Author.Rules.{rules}
use borrow.Author.Tests.{tests}
use Rattle.list_checks.proofs.Laws.{summed, sum_differs, sum_fits}
use Rattle.list_checks.proofs.check_sum.Goals as goal
use Rattle.list_checks.proofs.check_sum.Goals.{After-sum-total}

total : (c : After-sum-total) → c.sum-total.result ≡ sum_of c.args.sides.now
total c = let xs = c.args.sides.now in
    sum_by_from_yields_List (λ x. x) xs c.map.result c.sum-total.result c.sum-total.ensures.ran
    (YieldsList-from_map _ (λ x. x) (YieldsList-at c.map.ensures.source (YieldsList-from_slice xs cc)) c.map.ensures.closure (λ x r q k. search (rules, tests)))
    ∙ sym (summed xs)

pub returns-then-total-corners : goal.returns-then-total-corners
returns-then-total-corners c = sum_differs c.args.sides.now c.args.corners c.sum-total.result (total (goal.at.returns-then-total-corners c).After-sum-total) c.if-total-corners.true

pub returns : goal.returns
returns c = sum_fits c.args.sides.now c.args.corners c.sum-total.result (total (goal.at.returns c).After-sum-total) c.if-total-corners.false
