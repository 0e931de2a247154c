-- Four points of a row by the place of their condition.
use Rattle.std.specs.Prelude.{List, ℕ, ◌<◌, get_or, ℤ, pos}
use Rattle.paper.specs.Report.{conditions}
use Rattle.surface.specs.Sizes.{WrittenSize}

-- points no larger than those that are written
pub record SmallRow (r : List ℤ) : Type 0 where
  pub small : (j : ℕ) → j < conditions → WrittenSize (get_or r j (pos 0))
