-- `building::writing::face_end` meets its contract: it is as far from the first corner as the face has sides.
use mathlib.Core.Path.{◌≡◌}
use mathlib.Core.List.{List}
use Prim.Native.Nat.{ℕ, ◌+◌, ◌<◌}
use native.Mathlib.Omega.{arith}
use Rattle.paper.specs.Corners.{sum_of, first_of, sides_of}
use Rattle.mesh.proofs.Faces.{first_from_lem, first_to, first_ends, sides_same}
use Rattle.building.specs.writing.Written.{WalksFaces}
use Rattle.building.proofs.writing.face_end.Goals as goal
use Rattle.building.proofs.writing.face_end.Goals.{After-face_start-start, After-sides, Start}

-- the first corner of the face
below : (c : After-face_start-start) → let w = c.requires in c.face_start-start.result < sum_of w.sides
below c =
    let w = c.requires in
    omega (arith, c.face_start-start.ensures w.sides w.rounds.previouses w.here, first_from_lem w.sides c.args.c w.here, w.here)

-- by any list of sides that the table is of
ends : (c : After-sides) (sides : List ℕ) → let s : Start = search in WalksFaces sides s.args.table.now
    → s.args.c < sum_of sides → c.face_start-start.result + c.sides.result ≡ first_of sides s.args.c + sides_of sides s.args.c
ends c sides r h =
    let s : Start = search in
    let d = s.args.c in
    let at = c.face_start-start.result in
    let e : at ≡ first_of sides d = c.face_start-start.ensures sides r.previouses h in
    let a = first_from_lem sides d h in
    let b = first_to sides d h in
    omega (arith, e, c.sides.ensures.read, r.counts at (omega arith), sides_same sides d h at (omega arith) (omega arith))

pub overflow_add-result : goal.overflow_add-result
overflow_add-result c =
    let w = c.requires in
    omega (arith, ends (goal.at.overflow_add-result c).After-sides w.sides w.rounds w.here, first_ends w.sides c.args.c w.here, w.rounds.faces.few)

pub face_start-start-requires : goal.face_start-start-requires
face_start-start-requires c = omega (arith, c.requires.here, c.requires.rounds.long)

pub sides-requires : goal.sides-requires
sides-requires c = omega (arith, below (goal.at.sides-requires c).After-face_start-start, c.requires.rounds.long)

pub returns : goal.returns
returns c = ends (goal.at.returns c).After-sides
