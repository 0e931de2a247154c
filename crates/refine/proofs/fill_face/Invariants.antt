-- The points of the corners below `c` are put in.
use Rattle.std.proofs.Common.{◌-◌, ◌≤◌, ◌<◌}
use Rattle.refine.specs.Pointed.{FacePointed}
use Rattle.refine.proofs.fill_face.Given as goal

abbrev pub invariant-loop-points : goal.invariant-loop-points
invariant-loop-points l =
    (l.start ≤ l.c) × (l.c < l.end) × FacePointed l.coordinates l.corners l.sharpness l.table l.marked l.face l.start l.c l.initial.points l.points

abbrev pub decreases-loop-points : goal.decreases-loop-points
decreases-loop-points l = l.end - l.c
