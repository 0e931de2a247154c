-- After i turns the first i values stand in the space and the others are as they were.
use Rattle.paper.specs.File.{side_in}
use Rattle.mesh.proofs.Fills.{Filled}
use Rattle.dms_lists.proofs.lists.read_bytes.Given as goal

abbrev pub invariant-loop-i : goal.invariant-loop-i
invariant-loop-i l = Filled (side_in l.file l.start) l.initial.out l.i l.out
