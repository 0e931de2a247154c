-- Nothing for a row that does not say it; else its words, a space and the number.
use mathlib.Core.List.{[], ◌∷◌}
use Rattle.streams.specs.text.Text.{decimal}
use Rattle.streams.proofs.text.Putting.{put_none, put_three, put_same}
use Rattle.lines.specs.Lines.{space}
use Rattle.lines.proofs.words.WordRows.{not_placed, is_placed}
use borrow.Author.Rules.{rules}
use Rattle.lines.proofs.words.put_place.Goals as goal

pub returns-then-is_empty : goal.returns-then-is_empty
returns-then-is_empty c = put_same (not_placed c.args.name.now c.args.place (search rules)) (put_none _ _)

pub returns : goal.returns
returns c =
    put_same (is_placed c.args.name.now c.args.place (search rules))
    (put_three c.args.name.now (space ∷ []) (decimal c.args.place) c.put_word-word.auto.buffer c.put_byte-space.auto.buffer c.put_word-word.ensures
    c.put_byte-space.ensures c.put_number.ensures)
