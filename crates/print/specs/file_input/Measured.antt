-- A file read from a reader: the bytes held, and the length counted.
use Rattle.std.specs.Prelude.{◌≡◌, List, ℕ, ◌+◌, ◌≤◌, ◌<◌, length, take}
use Rattle.io.specs.Counts.{IsPrefixLen}
use Rattle.paper.specs.File.{expected_length}
use Rattle.print.specs.declared.file_input.Input.{Input}

-- the length counted of a file of which these bytes were read first, into a buffer of this size: all of them; no more where the
-- buffer is not full; and else at most one byte past the length that 3 asks
pub record Measured (file : List ℕ) (size counted : ℕ) : Type 0 where
  pub held : length file ≤ counted
  pub short : length file < size → counted ≡ length file
  pub long : length file < counted → counted ≤ expected_length file + 1

-- the bytes of a file that a buffer of this size holds, and the length counted
abbrev pub ReadInto : Input → List ℕ → ℕ → Type 0
ReadInto input buffer size = IsPrefixLen input.held buffer × Measured (take input.held buffer) size input.counted
