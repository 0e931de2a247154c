-- The sums of the faces before `f` that are needed are put in, and `start` is the first corner of face f.
use Rattle.std.proofs.Common.{◌≡◌}
use Rattle.paper.specs.Mesh.{plain_mesh}
use Rattle.paper.specs.Corners.{start_of}
use Rattle.face_sums.specs.Sums.{SumsAre}
use Rattle.face_sums.proofs.fill_sums.Given as goal

abbrev pub invariant-loop-f : goal.invariant-loop-f
invariant-loop-f l =
    (l.start ≡ start_of l.sides l.f)
    × SumsAre (plain_mesh l.coordinates l.sides l.corners) l.marked l.f l.wanted l.sums
