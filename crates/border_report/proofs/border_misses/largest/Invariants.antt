-- `border_report::border_misses::largest` meets its contract: so far the largest over the corners before `start`, which is the first corner of a face.
use mathlib.Core.Path.{◌≡◌}
use Prim.Native.Nat.{ℕ, ◌-◌, ◌<◌, ◌≤◌}
use lib.ListN.{length, get_or}
use Rattle.paper.specs.Corners.{first_of}
use Rattle.paper.specs.Report.{conditions, largest_below}
use Rattle.net.specs.Drawn.{drawn}
use Rattle.building.specs.writing.Written.{Faced}
use Rattle.border_report.specs.border_misses.Held.{corner_miss}
use Rattle.border_report.proofs.border_misses.largest.Given as goal

abbrev pub invariant-loop-start : goal.invariant-loop-start
invariant-loop-start l =
    (l.start ≤ l.n) × ((f : Faced l.n l.table) → l.start < l.n → first_of f.sides l.start ≡ l.start) × (length l.face ≡ 1968)
    × ((j : ℕ) → j < conditions → get_or l.most j 0 ≡ largest_below l.start (corner_miss (drawn l.n l.table l.points) j))

abbrev pub decreases-loop-start : goal.decreases-loop-start
decreases-loop-start l = l.n - l.start
