-- `floats::multiple` meets its contract: a shift by 12 is the floor by 4,096.
use Rattle.floats.proofs.Laws.{multiple_fits, multiple_is}
use Rattle.floats.proofs.multiple.Goals as goal

pub overflow_mul-result : goal.overflow_mul-result
overflow_mul-result c = multiple_fits c.args.d c.requires

pub returns : goal.returns
returns c = multiple_is c.args.d c.requires
