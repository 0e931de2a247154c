-- The number, and after it the byte.
use Rattle.streams.proofs.text.Putting.{put_then}
use Rattle.lines.proofs.put_ended.Goals as goal

pub returns : goal.returns
returns c = put_then c.put_number-to.auto.buffer c.put_number-to.ensures c.put_byte.ensures
