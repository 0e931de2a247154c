-- Checks 30 and 31 meet their contract: a byte list is four times as long exactly when its length is a multiple of four and its quarter
-- is the other length.
use mathlib.Core.Path.{sym}
use Rattle.rearrange.proofs.laws.Lengths.{passes}
use Rattle.rearrange.proofs.Lengths.{refused30, refused31, rest_four, quarter_four, from_quarter}
use Rattle.rearrange.proofs.check_lengths.Goals as goal
use Rattle.rearrange.proofs.check_lengths.Goals.{then-bytes-ne0-via-then-bytes-ne0, then-bytes-ne0-via-else-bytes-ne0+then-bytes-numbers}

pub returns-then-numbers-ne0 : goal.returns-then-numbers-ne0
returns-then-numbers-ne0 c = sym (refused30 c.args.numbers c.args.bytes c.if-numbers-ne0.true)

pub returns-then-bytes-ne0 : goal.returns-then-bytes-ne0
returns-then-bytes-ne0 c =
    let n = c.args.numbers in
    let m = c.args.bytes in
    sym (refused31 n m c.if-numbers-ne0.false (λ e.
    elim c.then-bytes-ne0.branch [
      | then-bytes-ne0-via-then-bytes-ne0 w ↦ w.if-bytes-ne0.true (rest_four n m e)
      | then-bytes-ne0-via-else-bytes-ne0+then-bytes-numbers w ↦ w.if-bytes-numbers.true (quarter_four n m e)
    ]))

pub returns : goal.returns
returns c =
    let n = c.args.numbers in
    let m = c.args.bytes in
    sym (passes n m c.if-numbers-ne0.false (from_quarter n m c.if-bytes-ne0.false c.if-bytes-numbers.false))
