-- The number, and after it the byte.
use mathlib.Core.Path.{ap}
use mir.Syntax.{w32}
use mir.ValLaws.{to_z-of_z}
use Rattle.streams.specs.text.Text.{signed_decimal}
use Rattle.streams.proofs.text.Putting.{put_then, put_same}
use Rattle.streams.proofs.text.put_entry.Goals as goal

pub returns : goal.returns
returns c =
    put_then c.put_signed-to.auto.buffer (put_same (ap signed_decimal (to_z-of_z w32 c.args.z c.ranges.z)) c.put_signed-to.ensures)
    c.put_byte.ensures
