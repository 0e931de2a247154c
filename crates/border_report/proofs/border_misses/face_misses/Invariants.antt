-- `border_report::border_misses::face_misses` meets its contract: so far the largest over the corners before the face and over its first j, and the rows of
-- the face's ring are as they were taken. The next corner's numbers stand after the corner's own, or at the beginning.
use mathlib.Core.Path.{◌≡◌}
use Prim.Native.Nat.{ℕ, ◌+◌, ◌<◌}
use lib.ListN.{length, get_or}
use Rattle.paper.specs.Calls.{per_corner}
use Rattle.paper.specs.Report.{conditions, largest_below}
use Rattle.net.specs.Drawn.{drawn}
use Rattle.net.specs.stencil.Taken.{FaceTaken}
use Rattle.border_report.specs.border_misses.Held.{corner_miss}
use Rattle.border_report.proofs.border_misses.face_misses.Given as goal

abbrev pub invariant-loop-j : goal.invariant-loop-j
invariant-loop-j l =
    (length l.linked ≡ per_corner) × ((length l.stencil ≡ 128) × FaceTaken (drawn l.n l.table l.points) l.start (l.k + 1) l.stencil l.stencil)
    × ((i : ℕ) → i < conditions → get_or l.most i 0 ≡ largest_below (l.start + l.j) (corner_miss (drawn l.n l.table l.points) i))
