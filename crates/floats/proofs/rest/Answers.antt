-- `floats::rest` meets its contract: the float of nothing, or the second float.
use lib.Ieee.{of_bits, of_int}
use Rattle.floats.proofs.All.{none_rest, far_rest}
use Rattle.floats.proofs.rest.Goals as goal

pub returns-then-near : goal.returns-then-near
unfolding of_bits of_int
returns-then-near c = none_rest c.args.near c.args.d c.if-near.true

pub returns-else-near : goal.returns-else-near
returns-else-near c = far_rest c.args.near c.args.d c.requires _ c.if-near.false c.second.ensures
