-- The digits after the minus, or all bytes, are the number's; the minus gives the sign.
use mathlib.Core.Path.{◌∙◌}
use mathlib.Core.Bool.{true, false}
use Rattle.off_words.proofs.digits.Numbers.{after_minus, no_minus, number_is, negative_is, positive_is, positive_value, negative_value}
use Rattle.off_words.proofs.digits.number.Goals as goal

pub returns-in_err-decimal-in-Some : goal.returns-in_err-decimal-in-Some
returns-in_err-decimal-in-Some c =
    let m = after_minus c.args.word.now c.in-Some.digits.now c.in-Some.ensures.cases.0 c.in-Some.ensures.cases.1 in
    rw c.from_residual.ensures (number_is _ _ m.1 false c.in_err-decimal-in-Some.ensures)

pub returns-in_err-decimal-in-None : goal.returns-in_err-decimal-in-None
returns-in_err-decimal-in-None c =
    let m = no_minus c.args.word.now c.in-None.ensures.cases in
    rw c.from_residual-in_err-decimal-in-None.ensures (number_is _ _ m.1 false c.in_err-decimal-in-None.ensures)

pub returns-in_ok-decimal-in-Some : goal.returns-in_ok-decimal-in-Some
returns-in_ok-decimal-in-Some c =
    let m = after_minus c.args.word.now c.in-Some.digits.now c.in-Some.ensures.cases.0 c.in-Some.ensures.cases.1 in
    let d = c.in_ok-decimal-in-Some.ensures in
    (number_is _ _ m.1 true d.0, negative_value _ _ d.2 c.cast_signed.ensures ∙ negative_is _ _ m.1 m.0 _ d.1)

pub returns-in_ok-decimal-in-None : goal.returns-in_ok-decimal-in-None
returns-in_ok-decimal-in-None c =
    let m = no_minus c.args.word.now c.in-None.ensures.cases in
    let d = c.in_ok-decimal-in-None.ensures in
    (number_is _ _ m.1 true d.0, positive_value _ _ d.2 c.cast_signed-in-None.ensures ∙ positive_is _ _ m.1 m.0 _ d.1)
