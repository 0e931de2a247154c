-- The run of bytes at the cursor is the word, or there is none and the run is empty.
use mathlib.Core.Path.{◌≡◌, sym, ap, ◌∙◌}
use mir.Syntax.{w32}
use mir.Val.{SFits}
use mir.ValLaws.{to_z-of_z}
use borrow.Author.Rules.{rules}
use Rattle.std.specs.Prelude.{[], ◌-◌, get_or, take, drop}
use Rattle.paper.specs.Off.{words_of, is_number, value_of}
use Rattle.off_words.proofs.Cursors.{word_here, number_there, room, before_next}
use Rattle.off_words.proofs.Cursor.number.Goals as goal
use Rattle.off_words.proofs.Cursor.number.Goals.{After-number}

here : (t : After-number)
    → get_or (words_of t.args.text.now) t.args.self.word []
    ≡ take (t.word_end-end.result - t.to_word-first.result.at) (drop t.to_word-first.result.at t.args.text.now)
here t = word_here _ _ t.to_word-first.result t.word_end-end.result t.to_word-first.ensures t.word_end-end.ensures

pub returns-in_err-value : goal.returns-in_err-value
returns-in_err-value c =
    rw c.from_residual.ensures (ap is_number (here (goal.at.returns-in_err-value c).After-number) ∙ c.in_err-value.ensures)

pub moved-requires : goal.moved-requires
moved-requires c =
    let e = c.word_end-end in let t = c.to_word-first in
    room _ _ t.result e.result t.ensures e.ensures (number_there _ c.in_ok-value.ensures.0)

pub returns : goal.returns
returns c =
    let e = c.word_end-end in let t = c.to_word-first in
    let there = c.in_ok-value.ensures in
    let w = here (goal.at.returns c).After-number in
    let fits : SFits w32 c.in_ok-value.value = search rules in
    record {
      is = ap is_number w ∙ there.0;
      value = to_z-of_z w32 c.in_ok-value.value fits ∙ there.1 ∙ ap value_of (sym w);
      next = before_next _ _ t.result e.result t.ensures e.ensures (number_there _ there.0) _ c.moved.ensures.0 c.moved.ensures.1;
    }
