-- `check_levels` meets its contract: no level before c is outside.
use native.Mathlib.Omega.{arith}
use mathlib.Core.Path.{◌≡◌}
use mathlib.Core.Bool.{true}
use Rattle.paper.specs.Faults.{outside}
use Rattle.paper.specs.Sampling.{most_parts}
use Rattle.paper.specs.Triangles.{level}
use Rattle.triangles.proofs.Leveled.{levels_many, level_out, levels_in}
use Rattle.mesh.proofs.Ranges.{outside_low, outside_high}
use Rattle.triangles.proofs.check_levels.Goals as goal
use Rattle.triangles.proofs.check_levels.Goals.{then-n-lt1-via-then-n-lt1, then-n-lt1-via-else-n-lt1+then-n-gt-MOST_PARTS}

pub returns-then-levels-count : goal.returns-then-levels-count
returns-then-levels-count c = levels_many c.args.levels.now _ c.if-levels-count.true

pub returns-then-n-lt1 : goal.returns-then-n-lt1
returns-then-n-lt1 c =
    let out : outside 1 most_parts (level c.args.levels.now c.loop-c.c) ≡ true =
    elim c.then-n-lt1.branch [
      | then-n-lt1-via-then-n-lt1 w ↦ outside_low 1 most_parts (level c.args.levels.now c.loop-c.c) (omega (arith, c.level_at-n.ensures))
      | then-n-lt1-via-else-n-lt1+then-n-gt-MOST_PARTS w ↦ outside_high 1 most_parts (level c.args.levels.now c.loop-c.c) (omega (arith, c.level_at-n.ensures))
    ] in
    level_out c.args.levels.now _ c.if-levels-count.false c.loop-c.c c.loop-c-test.true out c.loop-c.invariant

pub returns : goal.returns
returns c =
    let l = c.loop-c in levels_in c.args.levels.now _ c.if-levels-count.false (λ j h. l.invariant j (omega arith))
