-- After l turns the lines of the first l numbers were put.
use mathlib.Core.Path.{◌≡◌, refl, ◌∙◌}
use native.Mathlib.Omega.{arith}
use Rattle.streams.proofs.text.Putting.{put_none, put_then, put_same}
use Rattle.page_text.specs.Lines.{refusals_line}
use Rattle.page_text.proofs.Joins.{join_none, join_next}
use Rattle.page_text.proofs.put_refusals.Goals as goal

pub loop-l-init : goal.loop-l-init
loop-l-init c = (refl, put_same (join_none _) (put_none _ _))

pub loop-l-preserved : goal.loop-l-preserved
loop-l-preserved c =
    let numbers = c.args.numbers.now in (
      c.put_refused-at.auto.lines ∙ c.loop-l.invariant.0,
      put_same (join_next (refusals_line numbers) c.loop-l.l) (put_then c.loop-l.invariant.0 c.loop-l.invariant.1 c.put_refused-at.ensures),
    )

pub returns : goal.returns
returns c =
    let l = c.loop-l in
    let q : l.l ≡ 13 = omega arith in
    rw q at l.invariant.1
