-- After i turns the first i numbers stand in the bytes.
use Rattle.rearrange.specs.four_bytes.Words.{NumbersStored}
use Rattle.rearrange.proofs.four_bytes.write_numbers.Given as goal

abbrev pub invariant-loop-i : goal.invariant-loop-i
invariant-loop-i l = NumbersStored l.numbers l.i l.bytes
