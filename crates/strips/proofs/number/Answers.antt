-- `number` meets its contract, case by case.
use Rattle.strips.proofs.Rowed.{number_first, number_last, number_up, number_down}
use Rattle.strips.proofs.number.Goals as goal

pub returns-then-j-eq0 : goal.returns-then-j-eq0
returns-then-j-eq0 c = number_first c.args.row c.args.j c.if-j-eq0.true

pub returns-then-j-parts : goal.returns-then-j-parts
returns-then-j-parts c = number_last c.args.row c.args.j c.if-j-eq0.false c.if-j-parts.true

pub returns-then-row : goal.returns-then-row
returns-then-row c = number_up _ _ c.if-j-eq0.false c.if-j-parts.false c.if-row.true

pub returns : goal.returns
returns c = number_down _ _ c.if-j-eq0.false c.if-j-parts.false c.if-row.false
