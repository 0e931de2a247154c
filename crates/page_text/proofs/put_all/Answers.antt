-- After i turns the first i numbers were put.
use mathlib.Core.Path.{◌≡◌, refl, ◌∙◌}
use native.Mathlib.Omega.{arith}
use Rattle.streams.proofs.text.Putting.{put_none, put_then, put_same}
use Rattle.page_text.specs.Lines.{spaced_number}
use Rattle.page_text.proofs.Joins.{join_none, join_next}
use Rattle.page_text.proofs.put_all.Goals as goal

pub loop-n-init : goal.loop-n-init
loop-n-init c = (refl, put_same (join_none _) (put_none _ _))

pub loop-n-preserved : goal.loop-n-preserved
loop-n-preserved c =
    let numbers = c.args.numbers.now in (
      c.put_spaced-at.auto.lines ∙ c.loop-n.invariant.0,
      put_same (join_next (spaced_number numbers) c.loop-n.n-index) (put_then c.loop-n.invariant.0 c.loop-n.invariant.1 c.put_spaced-at.ensures),
    )

pub returns : goal.returns
returns c =
    let l = c.loop-n in
    let q : l.n-index ≡ 21 = omega arith in
    rw q at l.invariant.1
