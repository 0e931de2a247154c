-- The digits are those of the decimal number, and the word is these digits.
use mathlib.Core.Path.{◌∙◌}
use Rattle.streams.proofs.text.Putting.{put_same}
use Rattle.streams.proofs.text.Decimals.{digits_decimal, twenty_digits}
use Rattle.streams.proofs.text.put_number.Goals as goal

pub returns : goal.returns
returns c =
    let k = c.decimal-k.result in
    let f = c.decimal-k.ensures.len in
    put_same (c.decimal-k.ensures.digits ∙ digits_decimal k 20 c.args.n f (twenty_digits c.args.n k c.ranges.n f)) c.put_word.ensures
