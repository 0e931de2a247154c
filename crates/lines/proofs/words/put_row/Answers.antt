-- The place and then the words, both parts of the row; nothing where there is no row.
use Rattle.streams.proofs.text.Putting.{put_then}
use Rattle.lines.proofs.words.WordRows.{no_row}
use Rattle.lines.proofs.words.put_row.Goals as goal

pub returns-in_default : goal.returns-in_default
returns-in_default c = no_row _ _ _

pub returns : goal.returns
returns c =
    record { name = _; words = _; put = put_then c.put_place-to.auto.lines c.put_place-to.ensures c.put_word.ensures }
