-- What is found is whether the vertex is among the corners passed.
use Rattle.std.proofs.Common.{◌≡◌}
use Rattle.touching.specs.Sharing.{among}
use Rattle.touching.proofs.has_vertex.Given as goal

abbrev pub invariant-loop-u : goal.invariant-loop-u
invariant-loop-u l = l.found ≡ among l.face 0 l.u-index l.vertex
