-- Check 16 meets its contract: an empty range is a fault, as is one that begins or ends beyond the corners.
use mathlib.Core.Path.{sym}
use Rattle.mesh.proofs.Verdicts.{single_hit, single_miss}
use Rattle.checks.proofs.requests.Laws.{range_empty, range_past, range_fits}
use native.Mathlib.Omega.{arith}
use Rattle.checks.proofs.requests.check_range.Goals as goal
use Rattle.checks.proofs.requests.check_range.Goals.{then-count-eq0-via-then-count-eq0, then-count-eq0-via-else-count-eq0+then-corners-first, then-count-eq0-via-else-count-eq0+else-corners-first+then-corners-first-2}

pub returns-then-count-eq0 : goal.returns-then-count-eq0
returns-then-count-eq0 c =
    let s = c.args in
    sym (single_hit 16 _ (elim c.then-count-eq0.branch [
      | then-count-eq0-via-then-count-eq0 w ↦ range_empty s.corners s.first s.count w.if-count-eq0.true
      | then-count-eq0-via-else-count-eq0+then-corners-first w ↦ range_past s.corners s.first s.count (omega (arith, w.if-count-eq0.false))
      | then-count-eq0-via-else-count-eq0+else-corners-first+then-corners-first-2 w ↦ range_past s.corners s.first s.count (omega arith)
    ]))

pub returns : goal.returns
returns c =
    sym (single_miss 16 _ (range_fits c.args.corners c.args.first c.args.count (omega arith) (omega arith)))
