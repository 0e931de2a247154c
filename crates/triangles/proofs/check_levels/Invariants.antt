-- `check_levels` meets its contract: no level before c is outside.
use mathlib.Core.Path.{◌≡◌}
use mathlib.Core.Bool.{false}
use Prim.Native.Nat.{ℕ, ◌<◌}
use Rattle.paper.specs.Faults.{outside}
use Rattle.paper.specs.Sampling.{most_parts}
use Rattle.paper.specs.Triangles.{level}
use Rattle.triangles.proofs.check_levels.Given as goal

abbrev pub invariant-loop-c : goal.invariant-loop-c
invariant-loop-c l = (j : ℕ) → j < l.c → outside 1 most_parts (level l.levels j) ≡ false
