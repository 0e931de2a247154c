-- What is passed over leaves the cursor before the same word; it stops where no separator and no comment stands.
use mathlib.Core.Path.{◌≡◌}
use Prim.Native.Nat.{◌-◌}
use lib.ListN.{length}
use Rattle.off_words.specs.Cursor.{Before}
use Rattle.off_words.proofs.Cursor.to_word.Given as goal

abbrev pub invariant-loop-at : goal.invariant-loop-at
invariant-loop-at l = (l.c.at ≡ l.at) × Before l.text l.initial.c.word l.c

abbrev pub decreases-loop-at : goal.decreases-loop-at
decreases-loop-at l = length l.text - l.at
