-- The lines below m were put.
use mathlib.Core.Path.{◌≡◌, refl, ap, ◌∙◌}
use Prim.Native.Nat.{◌+◌}
use native.Mathlib.Omega.{arith}
use Rattle.paper.specs.Mesh.{most_sides}
use Rattle.lines.specs.Lines.{count_lines}
use Rattle.streams.proofs.text.Putting.{put_none, put_then, put_same}
use Rattle.lines.proofs.Rooms.{no_lines, next_lines}
use Rattle.lines.proofs.put_counts.Goals as goal

pub loop-m-init : goal.loop-m-init
loop-m-init c = (refl, put_same (no_lines _ _) (put_none _ _))

pub loop-m-preserved : goal.loop-m-preserved
loop-m-preserved c =
    let l = c.loop-m in let p = c.put_count-at in (
      p.auto.lines ∙ l.invariant.0,
      put_same (next_lines c.args.cornered.now c.args.sided.now l.m) (put_then l.invariant.0 l.invariant.1 p.ensures),
    )

pub returns : goal.returns
returns c =
    let l = c.loop-m in
    let q : l.m ≡ most_sides + 1 = omega (arith, l.auto.m-end, c.loop-m-test.false) in
    put_same (ap (count_lines c.args.cornered.now c.args.sided.now) q) l.invariant.1
