-- `floats::second` meets its contract: what is left is below 4,096, and an f32 holds it.
use Rattle.floats.proofs.Laws.{rest_fits, rest_in, rest_float}
use Rattle.floats.proofs.second.Goals as goal

pub overflow_sub-result : goal.overflow_sub-result
overflow_sub-result c = rest_fits c.args.d c.requires c.multiple.result c.multiple.ensures

pub int_to_float-result : goal.int_to_float-result
int_to_float-result c = rest_in c.args.d c.requires c.multiple.result c.multiple.ensures

pub returns : goal.returns
returns c = rest_float c.args.d c.requires c.multiple.result c.multiple.ensures
