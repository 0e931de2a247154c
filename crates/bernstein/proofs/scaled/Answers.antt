-- `bernstein::scaled` meets its contract, row by row.
use Rattle.bernstein.specs.Sums.{scaled_of}
use Rattle.bernstein.proofs.scaled.Goals as goal

pub returns : goal.returns
unfolding scaled_of
returns c = cc
