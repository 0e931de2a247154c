-- Each word is a number and is stored where there is room, or ends the reading.
use Rattle.off_lists.proofs.Readings.{Reading}
use Rattle.paper.specs.Off.{coordinate, words_of, value_at}
use Rattle.off_lists.proofs.read_coordinates.Given as goal

abbrev pub invariant-loop-i : goal.invariant-loop-i
invariant-loop-i l =
    Reading l.text coordinate (value_at (words_of l.text) coordinate) l.initial.next.word l.count 0 l.initial.list l.list l.i l.next
