-- What is passed over leaves the cursor before the same word; it stops where no separator and no comment stands.
use mathlib.Core.Path.{sym, ◌∙◌}
use Rattle.off_words.proofs.Cursors.{ends_none}
use Rattle.off_words.proofs.Cursor.to_word.Goals as goal

pub returns-then-not-separates : goal.returns-then-not-separates
returns-then-not-separates c =
    let e = c.loop-at.invariant.0 in
    record {
      before = c.loop-at.invariant.1;
      first = λ h. rw e (ends_none _ (sym c.separates.ensures ∙ c.if-not-separates.true) c.if-byte-eq35.false);
    }
