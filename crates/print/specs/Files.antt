-- What is printed of a file.
use Rattle.std.specs.Prelude.{◌≡◌, List, ℕ}
use Rattle.paper.specs.Faults.{Told}
use Rattle.paper.specs.File.{FileSurveyed}
use Rattle.paper.specs.declared.Counts.{Counts}
use Rattle.lines.specs.Lines.{summary_lines}

-- these lines are what is printed of the file, of which surveying answers this
pub record Printed (file : List ℕ) (counted : ℕ) (summary : Told Counts) (lines : List ℕ) : Type 0 where
  pub surveyed : FileSurveyed file counted summary
  pub printed : lines ≡ summary_lines summary
