-- Check 9 meets its contract: no corner before `c` is at fault, the chains of the vertices are made of the corners before `c`, and these
-- have their rows; `before` is the corner before `c` in its face.
use mathlib.Core.Path.{◌≡◌}
use Prim.Native.Nat.{◌+◌, ◌≤◌, ◌<◌}
use lib.ListN.{length, get_or}
use Rattle.paper.specs.Corners.{sum_of, start_of, previous}
use Rattle.checks.specs.columns.Filled.{FacesTo}
use Rattle.checks.proofs.faces.Laws.{FacesPassed}
use Rattle.checks.proofs.faces.check_faces.Given as goal

abbrev pub invariant-loop-c : goal.invariant-loop-c
invariant-loop-c l =
    (l.s-index < length l.sides) × (l.start ≡ start_of l.sides l.s-index) × (l.end ≡ l.start + get_or l.sides l.s-index 0) × (l.end ≤ length l.corners) × (l.start ≤ l.c) × (l.c ≤ l.end)
    × (length l.table ≡ length l.initial.table) × (length l.vertices ≡ length l.initial.vertices) × FacesPassed l.sides l.corners l.table l.vertices l.c
    × ((l.before < sum_of l.sides) × (l.c < l.end → l.before ≡ previous l.sides l.c) × FacesTo l.sides l.table l.c)

abbrev pub invariant-loop-s : goal.invariant-loop-s
invariant-loop-s l =
    (l.s-index ≤ length l.sides) × (l.start ≡ start_of l.sides l.s-index) × (length l.table ≡ length l.initial.table) × (length l.vertices ≡ length l.initial.vertices)
    × FacesPassed l.sides l.corners l.table l.vertices l.start × FacesTo l.sides l.table l.start
