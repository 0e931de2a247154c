-- Each space that is too short is the fault at its turn.
use mathlib.Core.Path.{ap}
use Prim.Native.Nat.{ℕ, ◌*◌}
use native.Mathlib.Omega.{arith}
use Rattle.dms.proofs.Files.{no_coordinates, no_sides, no_corners, no_sharpness, all_room}
use Rattle.dms.proofs.check_room.Goals as goal

pub returns-then-lent-numbers : goal.returns-then-lent-numbers
returns-then-lent-numbers c =
    no_coordinates c.args.file.now c.args.lent.coordinates c.args.lent.sides c.args.lent.corners c.args.lent.sharpness _
    (ap (λ (n : ℕ). 3 * n) c.vertex_count-numbers.ensures.0) c.if-lent-numbers.true

pub returns-then-lent-faces : goal.returns-then-lent-faces
returns-then-lent-faces c =
    no_sides c.args.file.now c.args.lent.coordinates c.args.lent.sides c.args.lent.corners c.args.lent.sharpness
    (omega (arith, c.vertex_count-numbers.ensures.0)) _ c.face_count-faces.ensures.0 c.if-lent-faces.true

pub returns-then-lent-count : goal.returns-then-lent-count
returns-then-lent-count c =
    no_corners c.args.file.now c.args.lent.coordinates c.args.lent.sides c.args.lent.corners c.args.lent.sharpness
    (omega (arith, c.vertex_count-numbers.ensures.0)) (omega (arith, c.face_count-faces.ensures.0)) _ c.corner_count-count.ensures.0 c.if-lent-count.true

pub returns-then-lent-count-2 : goal.returns-then-lent-count-2
returns-then-lent-count-2 c =
    let count = c.corner_count-count.ensures.0 in
    no_sharpness c.args.file.now c.args.lent.coordinates c.args.lent.sides c.args.lent.corners c.args.lent.sharpness
    (omega (arith, c.vertex_count-numbers.ensures.0)) (omega (arith, c.face_count-faces.ensures.0)) (omega (arith, count)) _
    (ap (λ (n : ℕ). 2 * n) count) c.if-lent-count-2.true

pub returns : goal.returns
returns c =
    let count = c.corner_count-count.ensures.0 in
    all_room c.args.file.now c.args.lent.coordinates c.args.lent.sides c.args.lent.corners c.args.lent.sharpness
    (omega (arith, c.vertex_count-numbers.ensures.0)) (omega (arith, c.face_count-faces.ensures.0)) (omega (arith, count)) (omega (arith, count))
