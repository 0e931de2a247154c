-- The low byte, and after it the high one.
use Rattle.dms_output.proofs.put_half.Goals as goal

pub returns : goal.returns
returns c = rw c.to_le_bytes.ensures at c.put_word.ensures
