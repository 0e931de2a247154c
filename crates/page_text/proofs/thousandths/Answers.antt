-- `page_text::thousandths` meets its contract: it computes what the definition says.
use Rattle.std.proofs.Common.{refl}
use Rattle.page_text.proofs.thousandths.Goals as goal

pub returns : goal.returns
returns c = refl
