-- What a search over n numbers answers.
use Rattle.std.specs.Prelude.{Bool, ℕ, cond, Option, Some, None}
use Rattle.paper.specs.Scan.{first_below, some_below}

-- the lowest number below n that passes the test, if one does
abbrev pub lowest_if : ℕ → (ℕ → Bool) → Option ℕ
lowest_if n f = cond (some_below n f) (Some (first_below n f)) None
