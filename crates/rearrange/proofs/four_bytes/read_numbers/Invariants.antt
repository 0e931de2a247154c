-- After i turns the first i numbers are read.
use Rattle.mesh.proofs.Fills.{Filled}
use Rattle.rearrange.specs.four_bytes.Words.{number_in}
use Rattle.rearrange.proofs.four_bytes.read_numbers.Given as goal

abbrev pub invariant-loop-i : goal.invariant-loop-i
invariant-loop-i l = Filled (number_in l.bytes) l.initial.numbers l.i l.numbers
