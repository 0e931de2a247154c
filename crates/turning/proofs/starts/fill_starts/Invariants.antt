-- `fill_starts` meets its contract: the faces below `f` are entered.
use mathlib.Core.Path.{◌≡◌}
use Rattle.paper.specs.Corners.{start_of}
use Rattle.turning.specs.starts.Starts.{StartsTo}
use Rattle.turning.proofs.starts.fill_starts.Given as goal

abbrev pub invariant-loop-f : goal.invariant-loop-f
invariant-loop-f l =
    StartsTo l.sides l.faces l.starts l.f × (l.start ≡ start_of l.sides l.f)
