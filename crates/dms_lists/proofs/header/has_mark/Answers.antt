-- The first three bytes are those of the mark.
use mathlib.Core.Path.{◌∙◌}
use Rattle.dms_lists.proofs.header.Headers.{mark_first}
use Rattle.dms_lists.proofs.header.has_mark.Goals as goal

pub returns : goal.returns
returns c = c.starts_with.ensures.value ∙ mark_first c.args.file.now c.requires
