-- `outer_row` meets its contract.
use native.Mathlib.Omega.{arith}
use mathlib.Core.Path.{◌≡◌, ap, ◌∙◌}
use Rattle.paper.specs.Sampling.{side_at}
use Rattle.paper.specs.Net.{Side}
use Rattle.paper.specs.Triangles.{begin, turn, end_number}
use Rattle.numbering.proofs.Lent.{here_of}
use Rattle.index_list.proofs.Rows.{outer_of, upward_is, turn_next, turn_last}
use Rattle.index_list.proofs.outer_row.Goals as goal
use Rattle.index_list.proofs.outer_row.Goals.{then-side-lt3, else-side-lt3}

pub returns : goal.returns
returns c =
    let t : side_at c.if-side-lt3.after ≡ turn (side_at c.args.side) =
    elim c.if-side-lt3.branch [
      | then-side-lt3 w ↦ ap side_at w.after-is ∙ turn_next c.args.side w.if-side-lt3.true
      | else-side-lt3 w ↦ ap side_at w.after-is ∙ turn_last c.args.side w.if-side-lt3.false
    ] in (
      record { parts = c.segments_at-parts.ensures.1; base = omega (arith, c.segments_at-parts.ensures.1, c.curve_start-base.ensures.0) },
      λ M q. outer_of M c.args.tables.levels.now c.args.c (side_at c.args.side) _ (c.end_number-first.ensures M q)
          (c.end_number-last.ensures M q ∙ ap (λ (x : Side). end_number M c.args.tables.levels.now c.args.c (begin x)) t)
          (c.curve_start-base.ensures.1 M q) (c.segments_at-parts.ensures.2 M (here_of M q.of c.args.c c.requires.1))
          (upward_is c.args.side c.requires.2),
    )
