-- After as many turns the first coordinates were put.
use Rattle.streams.specs.text.Text.{Put}
use Rattle.dms_output.specs.Bytes.{coordinate_bytes}
use Rattle.dms_output.proofs.put_coordinates.Given as goal

abbrev pub invariant-loop-z : goal.invariant-loop-z
invariant-loop-z l = Put l.initial.file l.from (coordinate_bytes l.coordinates l.z-index) l.file l.at
