-- The whole ticks, the point and three digits.
use mathlib.Core.Path.{ap}
use mathlib.Core.List.{[], ◌∷◌, ◌++◌}
use Prim.Native.Nat.{◌/◌, ◌%◌}
use Rattle.streams.specs.text.Text.{decimal}
use Rattle.page_text.specs.Lines.{digit, in_ticks}
use Rattle.streams.proofs.text.Putting.{put_three, put_same}
use Rattle.page_text.proofs.put_ticks.Goals as goal

pub returns : goal.returns
returns c =
    let n = c.thousandths-n.result in
    let tail = put_three (digit (n / 100 % 10)) (digit (n / 10 % 10)) (digit (n % 10)) c.put_digit-first.auto.lines c.put_digit-second.auto.lines c.put_digit-first.ensures c.put_digit-second.ensures
    c.put_digit.ensures in
    put_same (ap in_ticks c.thousandths-n.ensures)
    (put_three (decimal (n / 1000)) (46 ∷ []) (digit (n / 100 % 10) ++ (digit (n / 10 % 10) ++ digit (n % 10))) c.put_number-whole.auto.buffer c.put_byte-point.auto.buffer c.put_number-whole.ensures
    c.put_byte-point.ensures tail)
