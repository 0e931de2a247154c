-- Digits that a number may have.
use Rattle.std.specs.Prelude.{Bool, not, ◌&&◌, List, ℕ, length}
use Rattle.paper.specs.Faults.{outside}
use Rattle.paper.specs.Off.{all_digits}

-- one to nine bytes, all of them digits
abbrev pub is_decimal : List ℕ → Bool
is_decimal digits = all_digits digits && not (outside 1 9 (length digits))
