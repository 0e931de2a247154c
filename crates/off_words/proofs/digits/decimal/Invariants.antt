-- The digits up to the index are digits; the value of all is that of the others, continued from `n`, which so many digits keep below a power of ten.
use mathlib.Core.Path.{◌≡◌}
use Prim.Native.Nat.{◌<◌}
use lib.ListN.{drop}
use Rattle.paper.specs.Off.{all_digits, value_after}
use Rattle.off_words.proofs.digits.Numbers.{tens}
use Rattle.off_words.proofs.digits.decimal.Given as goal

abbrev pub invariant-loop-byte : goal.invariant-loop-byte
invariant-loop-byte l =
    record {
      digits : all_digits l.digits ≡ all_digits (drop l.byte-index l.digits);
      value : value_after 0 l.digits ≡ value_after l.n (drop l.byte-index l.digits);
      below : l.n < tens l.byte-index;
    }
