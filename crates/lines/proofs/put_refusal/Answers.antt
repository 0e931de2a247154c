-- The word, and after it the two numbers.
use mathlib.Core.Path.{ap}
use Rattle.lines.specs.Lines.{ended, space, feed, refused_word}
use Rattle.streams.proofs.text.Putting.{put_same, put_three}
use Rattle.lines.proofs.put_refusal.Goals as goal

pub returns : goal.returns
returns c =
    put_three refused_word (ended c.args.number space) (ended c.args.place feed) c.put_word-word.auto.buffer c.put_ended-first.auto.lines
    c.put_word-word.ensures (put_same (ap (λ n. ended n space) c.from.ensures) c.put_ended-first.ensures) c.put_ended.ensures
