-- `floats::first` meets its contract: an f32 holds a number up to 2^24 and a multiple of 4,096 up to 2^28, so no cast loses anything.
use Rattle.floats.proofs.Laws.{near_in, near_first, multiple_narrows, far_first_lem}
use Rattle.floats.proofs.first.Goals as goal

pub int_to_float-result : goal.int_to_float-result
int_to_float-result c = near_in c.args.d c.requires.0 c.args.near c.requires.1 c.if-near.true

pub returns-then-near : goal.returns-then-near
returns-then-near c = near_first c.args.d c.requires.0 c.args.near c.requires.1 c.if-near.true

pub float_to_float-result : goal.float_to_float-result
float_to_float-result c =
    multiple_narrows c.args.d c.requires.0 c.multiple.result c.multiple.ensures

pub returns-else-near : goal.returns-else-near
returns-else-near c =
    far_first_lem c.args.d c.requires.0 _ c.multiple.ensures c.args.near c.if-near.false
