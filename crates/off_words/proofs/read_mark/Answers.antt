-- The run of bytes at the cursor is the first word, or there is none and the run is empty.
use mathlib.Core.Path.{sym, ap, ◌∙◌}
use Rattle.paper.specs.Off.{is_off}
use Rattle.off_words.proofs.Cursors.{same_at, word_here, off_there, room, before_next}
use Rattle.off_words.proofs.read_mark.Goals as goal

pub moved-requires : goal.moved-requires
moved-requires c =
    let e = c.word_end-end in let t = c.to_word-first in
    room _ _ t.result e.result t.ensures e.ensures (off_there _ (sym c.is_off.ensures ∙ c.if-is_off.true))

pub returns-then-is_off : goal.returns-then-is_off
returns-then-is_off c =
    let e = c.word_end-end in let t = c.to_word-first in
    let a = same_at _ _ _ _ c.start.ensures.number t.ensures in
    let there = sym c.is_off.ensures ∙ c.if-is_off.true in
    record {
      is = ap is_off (word_here _ _ t.result e.result a e.ensures) ∙ there;
      next_is = before_next _ _ t.result e.result a e.ensures (off_there _ there) _ c.moved.ensures.0 c.moved.ensures.1;
    }

pub returns-else-is_off : goal.returns-else-is_off
returns-else-is_off c =
    let e = c.word_end-end in let t = c.to_word-first in
    let a = same_at _ _ _ _ c.start.ensures.number t.ensures in
    ap is_off (word_here _ _ t.result e.result a e.ensures) ∙ sym c.is_off.ensures ∙ c.if-is_off.false
