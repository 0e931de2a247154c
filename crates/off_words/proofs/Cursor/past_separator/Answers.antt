-- A separator parts words and is none.
use Rattle.off_words.proofs.Cursors.{before_on, separator_words}
use native.Mathlib.Omega.{arith}
use Rattle.off_words.proofs.Cursor.past_separator.Goals as goal

pub returns : goal.returns
returns c =
    let self = c.args.self in (
      omega (arith, c.moved.ensures.0),
      before_on _ _ self _ _ _ c.requires.2 (omega arith) (omega arith)
          (separator_words _ self.at c.requires.0 c.requires.1) c.moved.ensures.0 c.moved.ensures.1 (omega arith),
    )
