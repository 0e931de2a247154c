-- Check 27 meets its contract.
use Rattle.list_checks.proofs.Laws.{pairs_differ, pairs_fit}
use Rattle.list_checks.proofs.check_pairs.Goals as goal

pub returns-then-sharpness-corners : goal.returns-then-sharpness-corners
returns-then-sharpness-corners c = pairs_differ c.args.sharpness c.args.corners c.if-sharpness-corners.true

pub returns : goal.returns
returns c = pairs_fit c.args.sharpness c.args.corners c.if-sharpness-corners.false
