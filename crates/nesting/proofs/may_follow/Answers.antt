-- `may_follow` meets its contract: the marks tell what is listed.
use mathlib.Core.Path.{◌∙◌}
use borrow.Author.Tests.{le-ltb}
use Rattle.nesting.proofs.Laws.{not_again, under_sun, under_body, under_none}
use Rattle.nesting.proofs.may_follow.Goals as goal

pub returns-then-marks-b : goal.returns-then-marks-b
returns-then-marks-b c holders list e m = not_again holders list _ m _ e c.if-marks-b.true

pub returns-then-holder-eq-SUN : goal.returns-then-holder-eq-SUN
returns-then-holder-eq-SUN c holders list e m = under_sun holders list _ m _ e c.if-marks-b.false c.if-holder-eq-SUN.true

pub returns-then-h-marks : goal.returns-then-h-marks
returns-then-h-marks c holders list e m =
    under_body holders list _ m _ e c.if-marks-b.false c.if-holder-eq-SUN.false

pub returns-else-h-marks : goal.returns-else-h-marks
returns-else-h-marks c holders list e m =
    le-ltb _ _ c.if-h-marks.false ∙ under_none holders list _ m _ e c.if-marks-b.false c.if-holder-eq-SUN.false c.if-h-marks.false
