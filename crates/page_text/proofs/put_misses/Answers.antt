-- After j turns the lines of the first j conditions were put.
use mathlib.Core.Path.{◌≡◌, refl, ◌∙◌}
use native.Mathlib.Omega.{arith}
use Rattle.streams.proofs.text.Putting.{put_none, put_then, put_same}
use Rattle.page_text.specs.Lines.{condition_line}
use Rattle.page_text.proofs.Joins.{join_none, join_next}
use Rattle.page_text.proofs.put_misses.Goals as goal

pub loop-j-init : goal.loop-j-init
loop-j-init c = (refl, put_same (join_none _) (put_none _ _))

pub loop-j-preserved : goal.loop-j-preserved
loop-j-preserved c =
    let numbers = c.args.numbers.now in (
      c.put_miss-at.auto.lines ∙ c.loop-j.invariant.0,
      put_same (join_next (condition_line numbers) c.loop-j.j) (put_then c.loop-j.invariant.0 c.loop-j.invariant.1 c.put_miss-at.ensures),
    )

pub returns : goal.returns
returns c =
    let l = c.loop-j in
    let q : l.j ≡ 4 = omega arith in
    rw q at l.invariant.1
