-- A word is left where the text goes on after separators and comments.
use Rattle.off_words.proofs.Cursors.{word_left}
use Rattle.off_words.proofs.Cursor.has_word.Goals as goal

pub returns : goal.returns
returns c = word_left _ _ c.to_word-first.result c.to_word-first.ensures
