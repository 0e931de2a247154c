-- A byte within the buffer stands at its place; past it nothing changes.
use Rattle.streams.proofs.text.Putting.{put_one, put_past}
use Rattle.streams.proofs.text.put_byte.Goals as goal

pub returns-then-at-buffer : goal.returns-then-at-buffer
returns-then-at-buffer c = put_one _ _ _ c.if-at-buffer.true

pub returns : goal.returns
returns c = put_past _ _ _ c.if-at-buffer.false
