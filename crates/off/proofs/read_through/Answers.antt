-- A refusal writes nothing to the lent lists. Else the own lists are those of the text, and are copied.
use mathlib.Core.Path.{◌≡◌}
use mathlib.Core.Bool.{false}
use Prim.Native.Nat.{◌*◌, ◌≤◌}
use lib.ListN.{length}
use native.Mathlib.Omega.{arith}
use Rattle.std.proofs.lemmas.Result.{err_from_is_err_and}
use Rattle.paper.specs.Mesh.{most_corners}
use Rattle.paper.specs.Faults.{fault4}
use Rattle.off.specs.checking.Call.{OwnRoom}
use Rattle.off.proofs.checking.Parts.{within_limits, room_kept, coordinates_fit, sides_fit, corners_fit, few_pairs}
use Rattle.off.proofs.checking.Parts.{taken, taken_fits, eights_begin, copied_none, copied_all}
use Rattle.off.proofs.read_through.Goals as goal
use Rattle.off.proofs.read_through.Goals.{In_ok-lengths}

pub returns-in_err-lengths : goal.returns-in_err-lengths
returns-in_err-lengths c =
    let p = err_from_is_err_and c.from_residual.result c.from_residual.ensures.1 in
    rw (p.1, p.2) (copied_none _ _ _ _ _ c.in_err-lengths.field-0.0 c.in_err-lengths.ensures)

-- the text was read and checked: what it has is within the limits, and the own lists have the room that they had
four : (t : In_ok-lengths) → fault4 t.in_ok-lengths.lengths.coordinates t.in_ok-lengths.lengths.sides t.in_ok-lengths.lengths.corners ≡ false
four t = within_limits _ _ _ _ t.in_ok-lengths.lengths t.in_ok-lengths.ensures

own : (t : In_ok-lengths) → OwnRoom t.read_checked.new.coordinates t.read_checked.new.sides t.read_checked.new.corners
own t = room_kept _ _ _ _ _ _ t.requires.1 t.read_checked.auto.coordinates t.read_checked.auto.sides t.read_checked.auto.corners

numbers : (t : In_ok-lengths) → t.in_ok-lengths.lengths.coordinates ≤ length t.read_checked.new.coordinates
numbers t = coordinates_fit t.in_ok-lengths.lengths _ _ _ (own t) (four t)

sizes : (t : In_ok-lengths) → t.in_ok-lengths.lengths.sides ≤ length t.read_checked.new.sides
sizes t = sides_fit t.in_ok-lengths.lengths _ _ _ (own t) (four t)

names : (t : In_ok-lengths) → t.in_ok-lengths.lengths.corners ≤ length t.read_checked.new.corners
names t = corners_fit t.in_ok-lengths.lengths _ _ _ (own t) (four t)

few : (t : In_ok-lengths) → t.in_ok-lengths.lengths.corners ≤ most_corners
few t = few_pairs _ _ _ _ t.in_ok-lengths.lengths t.in_ok-lengths.ensures

pub slice_bounds-copy-end : goal.slice_bounds-copy-end
slice_bounds-copy-end c = numbers c

pub slice_bounds-copy-end-2 : goal.slice_bounds-copy-end-2
slice_bounds-copy-end-2 c = taken _ _ (numbers (goal.at.slice_bounds-copy-end-2 c).In_ok-lengths)

pub copy-requires : goal.copy-requires
copy-requires c =
    let t = (goal.at.copy-requires c).In_ok-lengths in
    taken_fits _ _ c.args.coordinates.now (numbers t) (coordinates_fit t.in_ok-lengths.lengths _ _ _ c.requires.2 (four t))

pub slice_bounds-copy-end-3 : goal.slice_bounds-copy-end-3
slice_bounds-copy-end-3 c = sizes (goal.at.slice_bounds-copy-end-3 c).In_ok-lengths

pub slice_bounds-copy-end-4 : goal.slice_bounds-copy-end-4
slice_bounds-copy-end-4 c = taken _ _ (sizes (goal.at.slice_bounds-copy-end-4 c).In_ok-lengths)

pub copy-requires-2 : goal.copy-requires-2
copy-requires-2 c =
    let t = (goal.at.copy-requires-2 c).In_ok-lengths in
    taken_fits _ _ c.args.sides.now (sizes t) (sides_fit t.in_ok-lengths.lengths _ _ _ c.requires.2 (four t))

pub slice_bounds-copy-end-5 : goal.slice_bounds-copy-end-5
slice_bounds-copy-end-5 c = names (goal.at.slice_bounds-copy-end-5 c).In_ok-lengths

pub slice_bounds-copy-end-6 : goal.slice_bounds-copy-end-6
slice_bounds-copy-end-6 c = taken _ _ (names (goal.at.slice_bounds-copy-end-6 c).In_ok-lengths)

pub copy-requires-3 : goal.copy-requires-3
copy-requires-3 c =
    let t = (goal.at.copy-requires-3 c).In_ok-lengths in
    taken_fits _ _ c.args.corners.now (names t) (corners_fit t.in_ok-lengths.lengths _ _ _ c.requires.2 (four t))

pub overflow_mul-pairs : goal.overflow_mul-pairs
overflow_mul-pairs c = record { fits = omega (arith, few (goal.at.overflow_mul-pairs c).In_ok-lengths) }

pub slice_bounds-fill-end : goal.slice_bounds-fill-end
slice_bounds-fill-end c = omega (arith, few (goal.at.slice_bounds-fill-end c).In_ok-lengths, c.requires.3)

pub slice_bounds-fill-end-2 : goal.slice_bounds-fill-end-2
slice_bounds-fill-end-2 c = taken _ _ (omega (arith, few (goal.at.slice_bounds-fill-end-2 c).In_ok-lengths, c.requires.3))

pub returns : goal.returns
returns c =
    let t = (goal.at.returns c).In_ok-lengths in
    let pairs : 2 * c.in_ok-lengths.lengths.corners ≤ length c.args.sharpness.now = omega (arith, few t, c.requires.3) in
    copied_all _ _ _ _ _ c.in_ok-lengths.lengths c.in_ok-lengths.ensures (own t) _ c.copy.ensures c.copy-2.ensures c.copy-3.ensures
    (eights_begin (2 * c.in_ok-lengths.lengths.corners) c.args.sharpness.now c.fill.new.self pairs (c.fill.ensures.after (λ y e. e)))
