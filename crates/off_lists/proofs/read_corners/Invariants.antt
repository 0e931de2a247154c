-- Each word is a vertex number and is stored where there is room, or ends the reading.
use Rattle.off_lists.proofs.Readings.{Reading}
use Rattle.paper.specs.Off.{vertex_number, words_of, natural_at}
use Rattle.off_lists.proofs.read_corners.Given as goal

abbrev pub invariant-loop-i : goal.invariant-loop-i
invariant-loop-i l =
    Reading l.text vertex_number (natural_at (words_of l.text) vertex_number) l.initial.next.word l.count l.at l.initial.list l.list l.i l.next
