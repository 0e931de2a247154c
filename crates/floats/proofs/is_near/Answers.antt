-- `floats::is_near` meets its contract: the first test that fails decides, and after two that pass the third does.
use mathlib.Core.Path.{ap, sym, ◌∙◌}
use mathlib.Core.Bool.{not}
use borrow.Author.Rules.{rules}
use Rattle.floats.proofs.Laws.{x_far, y_far, z_decides}
use Rattle.floats.proofs.is_near.Goals as goal
use Rattle.floats.proofs.is_near.Goals.{then-is_within, else-is_within}

pub returns-then-is_within-2 : goal.returns-then-is_within-2
returns-then-is_within-2 c =
    elim c.if-is_within.branch [
      | then-is_within w ↦
          z_decides c.ranges.x c.ranges.y c.ranges.z c.is_within.ensures (ap not w.if-is_within.true) w.is_within-then-is_within.ensures
          (ap not (sym w.value-is ∙ c.if-is_within-2.true)) c.is_within-then-is_within-2.ensures
      | else-is_within w ↦ search rules
    ]

pub returns-else-is_within-2 : goal.returns-else-is_within-2
returns-else-is_within-2 c =
    elim c.if-is_within.branch [
      | then-is_within w ↦
          c.if-is_within-2.false ∙ y_far c.ranges.x c.ranges.y c.ranges.z c.is_within.ensures (ap not w.if-is_within.true) w.is_within-then-is_within.ensures
          (ap not (sym w.value-is ∙ c.if-is_within-2.false))
      | else-is_within w ↦ c.if-is_within-2.false ∙ x_far c.ranges.x c.ranges.y c.ranges.z c.is_within.ensures (ap not w.if-is_within.false)
    ]
