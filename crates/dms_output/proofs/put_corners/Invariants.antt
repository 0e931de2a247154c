-- After as many turns the first corners were put.
use Rattle.streams.specs.text.Text.{Put}
use Rattle.dms_output.specs.Bytes.{corner_bytes}
use Rattle.dms_output.proofs.put_corners.Given as goal

abbrev pub invariant-loop-vertex : goal.invariant-loop-vertex
invariant-loop-vertex l = Put l.initial.file l.from (corner_bytes l.corners l.vertex-index) l.file l.at
