-- The points of the faces before `f` are those of the table of sums, and `start` is the first corner of face f.
use Rattle.std.proofs.Common.{◌≡◌}
use Rattle.paper.specs.Mesh.{of_lists}
use Rattle.paper.specs.Corners.{start_of}
use Rattle.refine.specs.Pointed.{TablePointed}
use Rattle.refine.proofs.fill_faces.Given as goal

abbrev pub invariant-loop-f : goal.invariant-loop-f
invariant-loop-f l =
    (l.start ≡ start_of l.lists.sides.now l.f)
    × TablePointed (of_lists l.lists) l.sums l.marked (start_of l.lists.sides.now l.f) l.initial.points l.points
