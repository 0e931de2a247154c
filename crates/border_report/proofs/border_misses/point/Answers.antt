-- `border_report::border_misses::point` meets its contract: what is read is the number of the point on the axis, and a written point fits.
use mathlib.Core.Path.{◌∙◌}
use native.Mathlib.Omega.{arith}
use mir.Syntax.{w32, w64}
use mir.Val.{SFits}
use mir.Facts.{to_z-of_z}
use Rattle.border_report.specs.border_misses.Held.{point_in}
use borrow.Author.Rules.{rules}
use Rattle.border_report.proofs.border_misses.point.Goals as goal

-- the place of the number
pub bounds-net-at : goal.bounds-net-at
bounds-net-at c = omega (arith, c.requires.0.long, c.requires.1, c.requires.2)

pub returns : goal.returns
returns c =
    let f : SFits w64 c.from.result = search rules in
    let a = c.args in
    let g : SFits w32 (point_in a.net.now a.at a.axis a.k) = search rules in
    let e = to_z-of_z f ∙ c.from.ensures ∙ to_z-of_z g in
    (e, rw e (c.requires.0.small a.k c.requires.2))

pub overflow_mul-k : goal.overflow_mul-k
overflow_mul-k c = search (rules, bounds-net-at c)

pub overflow_add-at : goal.overflow_add-at
overflow_add-at c = search (rules, bounds-net-at c)

pub overflow_add-at-2 : goal.overflow_add-at-2
overflow_add-at-2 c = search (rules, bounds-net-at c)

pub offset_bounds-net-at : goal.offset_bounds-net-at
offset_bounds-net-at c = search (rules, bounds-net-at c)
