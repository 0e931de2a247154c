-- The word, the number, and a colon with the count.
use Rattle.streams.specs.text.Text.{decimal}
use Rattle.streams.proofs.text.Putting.{put_three}
use Rattle.page_text.specs.Lines.{refused_by_word, colon, named_line}
use Rattle.page_text.proofs.put_refused.Goals as goal

pub returns : goal.returns
returns c =
    put_three refused_by_word (decimal c.args.number) (named_line colon c.args.n) c.put_word-word.auto.buffer c.put_number-name.auto.buffer
    c.put_word-word.ensures c.put_number-name.ensures c.put_count.ensures
