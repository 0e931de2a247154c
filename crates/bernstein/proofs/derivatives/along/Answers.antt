-- `bernstein::derivatives::along` meets its contract, row by row.
use Rattle.bernstein.specs.Tangents.{along_of}
use Rattle.bernstein.proofs.derivatives.along.Goals as goal

pub returns : goal.returns
unfolding along_of
returns c = cc (c.times.ensures, c.times-2.ensures, c.times-3.ensures)
