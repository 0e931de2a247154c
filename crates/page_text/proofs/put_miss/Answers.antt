-- The words and the numbers between them.
use mathlib.Core.List.{◌++◌}
use Rattle.streams.specs.text.Text.{decimal}
use Rattle.page_text.specs.Lines.{miss_word, colon, limit_word, in_ticks, thousandths}
use Rattle.streams.proofs.text.Putting.{put_three}
use Rattle.page_text.proofs.put_miss.Goals as goal

pub returns : goal.returns
returns c =
    let s = c.args in
    let told = in_ticks (thousandths s.miss) in
    let tail = put_three colon told limit_word c.put_word-colon.auto.buffer c.put_ticks-ticks.auto.lines c.put_word-colon.ensures c.put_ticks-ticks.ensures c.put_word.ensures in
    put_three miss_word (decimal s.condition) (colon ++ (told ++ limit_word)) c.put_word-word.auto.buffer c.put_number-name.auto.buffer c.put_word-word.ensures c.put_number-name.ensures tail
