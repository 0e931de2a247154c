-- Twice the corners in the version that has the list, else none.
use mathlib.Core.Path.{sym, ◌∙◌}
use native.Mathlib.Omega.{arith}
use Rattle.dms_lists.proofs.header.Headers.{sharp_bytes, plain_bytes}
use Rattle.dms_lists.proofs.header.sharpness_bytes.Goals as goal

pub returns-then-is_sharp : goal.returns-then-is_sharp
returns-then-is_sharp c =
    let count = c.corner_count-count.ensures in
    let bytes = sharp_bytes _ (sym c.is_sharp.ensures ∙ c.if-is_sharp.true) in
    (omega (arith, count.0, bytes), omega (arith, count.1))

pub returns-else-is_sharp : goal.returns-else-is_sharp
returns-else-is_sharp c = (omega (arith, plain_bytes _ (sym c.is_sharp.ensures ∙ c.if-is_sharp.false)), omega arith)
