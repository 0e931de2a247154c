-- The number read is the first version, or the second test decides.
use Rattle.dms_lists.proofs.header.Headers.{first_version, other_version}
use Rattle.dms_lists.proofs.header.has_version.Goals as goal

pub returns-then-version-eq1 : goal.returns-then-version-eq1
returns-then-version-eq1 c = first_version _ _ c.half-version.ensures.0 c.if-version-eq1.true

pub returns-else-version-eq1 : goal.returns-else-version-eq1
returns-else-version-eq1 c = other_version _ _ c.half-version.ensures.0 c.if-version-eq1.false
