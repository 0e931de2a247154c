-- After c turns the first c values stand in the space and the others are as they were.
use Rattle.paper.specs.File.{corner_in}
use Rattle.mesh.proofs.Fills.{Filled}
use Rattle.dms_lists.proofs.lists.read_corners.Given as goal

abbrev pub invariant-loop-c : goal.invariant-loop-c
invariant-loop-c l = Filled (corner_in l.file l.start) l.initial.out l.c l.out
