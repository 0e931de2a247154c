-- The words after the # are those after the comment.
use mathlib.Core.Path.{◌∙◌}
use Rattle.off_words.proofs.Cursors.{before_on, comment_words_lem}
use native.Mathlib.Omega.{arith}
use Rattle.off_words.proofs.Cursor.past_comment.Goals as goal

pub returns : goal.returns
returns c =
    let self = c.args.self in
    let e = c.comment_end-end.ensures in (
      omega (arith, c.moved.ensures.0, e.0),
      before_on _ _ self _ _ _ c.requires.2 (omega (arith, e.0)) e.1
          (comment_words_lem _ self.at c.requires.0 c.requires.1 ∙ e.2) c.moved.ensures.0 c.moved.ensures.1 (omega arith),
    )
