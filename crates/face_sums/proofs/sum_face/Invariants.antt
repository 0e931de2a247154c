-- `x`, `y` and `z` are the sums of the vertices of the corners before `c`.
use Rattle.std.proofs.Common.{◌≡◌}
use Rattle.face_sums.specs.Sums.{step_sum}
use Rattle.face_sums.proofs.sum_face.Given as goal

abbrev pub invariant-loop-c : goal.invariant-loop-c
invariant-loop-c l =
    (l.x ≡ step_sum l.coordinates l.face 0 l.c 0)
    × (l.y ≡ step_sum l.coordinates l.face 0 l.c 1)
    × (l.z ≡ step_sum l.coordinates l.face 0 l.c 2)
