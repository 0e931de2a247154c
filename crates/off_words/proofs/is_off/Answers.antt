-- The bytes are those of OFF: as many, and each the same.
use mathlib.Core.Path.{◌∙◌}
use Rattle.off_words.proofs.Words.{off_bytes}
use Rattle.off_words.proofs.is_off.Goals as goal

pub returns : goal.returns
returns c = rw c.as_slice.ensures at c.eq.ensures ∙ off_bytes c.args.word.now
