-- The word, the number, the row and the line feed.
use mathlib.Core.Path.{ap}
use Rattle.streams.specs.text.Text.{decimal}
use Rattle.streams.proofs.text.Putting.{put_then, put_same}
use Rattle.lines.proofs.words.put_worded.Goals as goal

pub returns : goal.returns
returns c =
    record {
      name = c.put_row-last.ensures.name;
      words = c.put_row-last.ensures.words;
      put =
          put_then c.put_word-word.auto.buffer c.put_word-word.ensures
          (put_then c.put_number-first.auto.buffer (put_same (ap decimal c.from.ensures) c.put_number-first.ensures)
          (put_then c.put_row-last.auto.lines c.put_row-last.ensures.put c.put_byte.ensures));
    }
