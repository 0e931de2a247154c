-- 4 decides by the lengths. Else the lists have room, and are the mesh that is checked.
use mathlib.Core.Path.{◌≡◌, sym}
use mathlib.Core.Bool.{false}
use lib.Seq.{length-take-le}
use Rattle.std.proofs.lemmas.Result.{err_from_is_err_and}
use Rattle.mesh.proofs.Verdicts.{single_sound}
use Rattle.paper.specs.Faults.{fault4}
use Rattle.off.proofs.checking.Parts.{coordinates_fit, sides_fit, corners_fit, corners_few, check_all, check_four}
use Rattle.off.proofs.checking.check.Goals as goal
use Rattle.off.proofs.checking.check.Goals.{In_ok-check_lengths}

-- 4 passed
four : (t : In_ok-check_lengths) → fault4 t.args.lengths.coordinates t.args.lengths.sides t.args.lengths.corners ≡ false
four t = single_sound 4 _ 0 (sym t.in_ok-check_lengths.ensures)

pub returns-in_err-check_lengths : goal.returns-in_err-check_lengths
returns-in_err-check_lengths c =
    let p = err_from_is_err_and c.from_residual.result c.from_residual.ensures.1 in
    rw (p.1, p.2) (check_four c.args.lengths _ _ _ c.in_err-check_lengths.field-0.0 c.in_err-check_lengths.ensures)

pub slice_bounds-check_plain-end : goal.slice_bounds-check_plain-end
slice_bounds-check_plain-end c = sym (length-take-le _ _ (coordinates_fit c.args.lengths _ _ _ c.requires (four c)))

pub slice_bounds-check_plain-end-2 : goal.slice_bounds-check_plain-end-2
slice_bounds-check_plain-end-2 c =
    sym (length-take-le _ _ (sides_fit c.args.lengths _ _ _ c.requires (four (goal.at.slice_bounds-check_plain-end-2 c).In_ok-check_lengths)))

pub slice_bounds-check_plain-end-3 : goal.slice_bounds-check_plain-end-3
slice_bounds-check_plain-end-3 c =
    sym (length-take-le _ _ (corners_fit c.args.lengths _ _ _ c.requires (four (goal.at.slice_bounds-check_plain-end-3 c).In_ok-check_lengths)))

pub check_plain-requires : goal.check_plain-requires
check_plain-requires c = corners_few c.args.lengths _ _ _ c.requires (four (goal.at.check_plain-requires c).In_ok-check_lengths)

pub returns : goal.returns
returns c = check_all c.args.lengths _ _ _ c.requires (four (goal.at.returns c).In_ok-check_lengths) _ c.check_plain.ensures
