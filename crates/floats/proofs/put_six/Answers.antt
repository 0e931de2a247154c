-- `floats::put_six` meets its contract: the test picks the case, and each float carries its part.
use Rattle.floats.proofs.Laws.{asked}
use Rattle.floats.proofs.All.{six_put}
use Rattle.floats.proofs.put_six.Goals as goal

pub returns : goal.returns
returns c =
    rw (c.store.ensures)
    (six_put c.args.x c.args.y c.args.z c.requires.0 c.requires.1 c.requires.2 c.is_near-near.ensures c.args.at c.args.floats.now
    c.first-a.ensures c.first-b.ensures c.first-c.ensures c.rest-d.ensures c.rest-e.ensures c.rest-f.ensures)

pub first-a-requires : goal.first-a-requires
first-a-requires c = (asked c.args.x c.args.y c.args.z c.requires.0 c.requires.1 c.requires.2 c.is_near-near.ensures).0

pub first-b-requires : goal.first-b-requires
first-b-requires c = (asked c.args.x c.args.y c.args.z c.requires.0 c.requires.1 c.requires.2 c.is_near-near.ensures).1

pub first-c-requires : goal.first-c-requires
first-c-requires c = (asked c.args.x c.args.y c.args.z c.requires.0 c.requires.1 c.requires.2 c.is_near-near.ensures).2

pub rest-d-requires : goal.rest-d-requires
rest-d-requires c = (asked c.args.x c.args.y c.args.z c.requires.0 c.requires.1 c.requires.2 c.is_near-near.ensures).0.0

pub rest-e-requires : goal.rest-e-requires
rest-e-requires c = (asked c.args.x c.args.y c.args.z c.requires.0 c.requires.1 c.requires.2 c.is_near-near.ensures).1.0

pub rest-f-requires : goal.rest-f-requires
rest-f-requires c = (asked c.args.x c.args.y c.args.z c.requires.0 c.requires.1 c.requires.2 c.is_near-near.ensures).2.0
