-- Mark, version and counts, one after the other.
use Rattle.streams.proofs.text.Putting.{put_then}
use Rattle.dms_output.proofs.put_header.Goals as goal

pub returns : goal.returns
returns c =
    put_then c.put_word-mark.auto.buffer c.put_word-mark.ensures
    (put_then c.put_half-first.auto.file c.put_half-first.ensures
    (put_then c.put_half-second.auto.file c.put_half-second.ensures
    (put_then c.put_half-third.auto.file c.put_half-third.ensures c.put_half.ensures)))
