-- `size` meets its contract: no sum is large.
use mathlib.Core.Path.{refl}
use Prim.Native.Nat.{◌-◌, ◌*◌, ◌≤◌}
use native.Mathlib.Omega.{arith}
use Rattle.closing.proofs.Counts.{most_inner}
use Rattle.triangles.proofs.size.Goals as goal
use Rattle.triangles.proofs.size.Goals.{Start}

inner : (s : Start) → s.args.shape.level * (s.args.shape.level - 1) ≤ 240
inner s = most_inner s.args.shape.level s.requires.few_level

pub overflow_add-result-3 : goal.overflow_add-result-3
overflow_add-result-3 c =
    record { fits = omega (arith, inner (search), c.requires.vertex, c.requires.edge, c.requires.face, c.requires.few_first, c.requires.few_second) }

pub overflow_add-result-4 : goal.overflow_add-result-4
overflow_add-result-4 c =
    record { fits = omega (arith, inner (search), c.requires.vertex, c.requires.edge, c.requires.face, c.requires.few_first, c.requires.few_second) }

pub returns : goal.returns
returns c =
    (refl, omega (arith, inner (search), c.requires.vertex, c.requires.edge, c.requires.face, c.requires.few_first, c.requires.few_second))

pub overflow_mul-result : goal.overflow_mul-result
overflow_mul-result c = record { fits = omega (arith, inner (search)) }

pub overflow_mul-result-2 : goal.overflow_mul-result-2
overflow_mul-result-2 c = record { fits = omega (arith, inner (search)) }
