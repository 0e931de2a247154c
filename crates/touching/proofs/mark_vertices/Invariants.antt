-- The vertices of the faces passed that have this one are marked.
use Rattle.std.proofs.Common.{◌≡◌}
use Rattle.paper.specs.Corners.{start_of}
use Rattle.touching.specs.Sharing.{SharingMarked}
use Rattle.touching.proofs.mark_vertices.Given as goal

abbrev pub invariant-loop-n : goal.invariant-loop-n
invariant-loop-n l = (l.start ≡ start_of l.sides l.n-index) × SharingMarked l.sides l.corners l.vertex l.n-index l.sharing
