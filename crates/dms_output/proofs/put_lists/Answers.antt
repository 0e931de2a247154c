-- The header, and one list after the other.
use Rattle.streams.proofs.text.Putting.{put_then}
use Rattle.dms_output.proofs.put_lists.Goals as goal

pub returns : goal.returns
returns c =
    put_then c.put_header-header.auto.file c.put_header-header.ensures
    (put_then c.put_coordinates-numbers.auto.file
    c.put_coordinates-numbers.ensures
    (put_then c.put_word-counts.auto.buffer c.put_word-counts.ensures
    c.put_corners.ensures))
