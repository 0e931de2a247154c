-- The bytes of the word before this one were put.
use mathlib.Core.Path.{◌≡◌}
use lib.ListN.{length, take}
use Rattle.streams.specs.text.Text.{Put}
use Rattle.streams.proofs.text.put_word.Given as goal

abbrev pub invariant-loop-byte : goal.invariant-loop-byte
invariant-loop-byte l = (length l.buffer ≡ length l.initial.buffer) × Put l.initial.buffer l.at (take l.byte-index l.word) l.buffer l.to
