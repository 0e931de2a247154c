-- What crate mahunopi says of the call is what the export says.
use Rattle.mahunopi_c.proofs.mahunopi_sample.Goals as goal

pub returns : goal.returns
returns c = c.mahunopi_sample.ensures
