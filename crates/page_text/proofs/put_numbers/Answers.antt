-- The word, the numbers and the line feed.
use mathlib.Core.List.{[], ◌∷◌}
use Rattle.streams.proofs.text.Putting.{put_three}
use Rattle.page_text.specs.Lines.{texts_below, feed, page_word, spaced_number}
use Rattle.page_text.proofs.put_numbers.Goals as goal

pub returns : goal.returns
returns c =
    put_three page_word (texts_below (spaced_number c.args.numbers.now) 21) (feed ∷ []) c.put_word-word.auto.buffer c.put_all-end.auto.lines
    c.put_word-word.ensures c.put_all-end.ensures c.put_byte.ensures
