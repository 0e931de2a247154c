-- Checks 4 to 8 with 27 and 28 meet their contract: each stops the chain with its fault or is passed.
use mathlib.Core.Path.{◌≡◌, sym}
use lib.ListN.{length}
use Rattle.paper.specs.Mesh.{vertex_count, face_count, corner_count, of_lists}
use Rattle.paper.specs.Corners.{sum_of}
use Rattle.paper.specs.Faults.{sound, single, lowest_of, fault4, fault27, fault5, fault6, fault7, fault8}
use Rattle.mesh.proofs.Verdicts.{past, single_sound}
use Rattle.mesh.proofs.Accepted.{few_faces, few_corners}
use Rattle.list_checks.specs.Entries.{entry_faults}
use Rattle.list_checks.proofs.Laws.{handed, stops}
use Rattle.list_checks.proofs.check.Goals as goal
use Rattle.list_checks.proofs.check.Goals.{In_ok-check_lengths, In_ok-check_pairs, In_ok-check_sides, In_ok-check_sum, In_ok-check_coordinates, In_ok-check_names}

-- after each check: it has passed
four : (t : In_ok-check_lengths) → let M = of_lists t.args.lists in single 4 (fault4 (length M.coordinates) (face_count M) (corner_count M)) 0 ≡ sound
four t = sym t.in_ok-check_lengths.ensures

twenty-seven : (t : In_ok-check_pairs) → let M = of_lists t.args.lists in single 27 (fault27 (length M.sharpness) (corner_count M)) (length M.sharpness) ≡ sound
twenty-seven t = sym t.in_ok-check_pairs.ensures

five : (t : In_ok-check_sides) → let M = of_lists t.args.lists in lowest_of 5 (face_count M) (fault5 M.sides) ≡ sound
five t = sym t.in_ok-check_sides.ensures

six : (t : In_ok-check_sum) → let M = of_lists t.args.lists in single 6 (fault6 M.sides (corner_count M)) (sum_of M.sides) ≡ sound
six t = sym t.in_ok-check_sum.ensures

seven : (t : In_ok-check_coordinates) → let M = of_lists t.args.lists in lowest_of 7 (length M.coordinates) (fault7 M.coordinates) ≡ sound
seven t = sym t.in_ok-check_coordinates.ensures

eight : (t : In_ok-check_names) → let M = of_lists t.args.lists in lowest_of 8 (corner_count M) (fault8 (vertex_count M) M.corners) ≡ sound
eight t = sym t.in_ok-check_names.ensures

pub returns-in_err-check_lengths : goal.returns-in_err-check_lengths
unfolding entry_faults
returns-in_err-check_lengths c = handed c.from_residual.result c.in_err-check_lengths.field-0.0 c.from_residual.ensures.1
    (stops _ _ _ c.in_err-check_lengths.ensures)

pub returns-in_err-check_pairs : goal.returns-in_err-check_pairs
unfolding entry_faults
returns-in_err-check_pairs c = handed c.from_residual-in_err-check_pairs.result c.in_err-check_pairs.field-0.0 c.from_residual-in_err-check_pairs.ensures.1
    (past (four (goal.at.returns-in_err-check_pairs c).In_ok-check_lengths) _ (stops _ _ _ c.in_err-check_pairs.ensures))

pub returns-in_err-check_sides : goal.returns-in_err-check_sides
unfolding entry_faults
returns-in_err-check_sides c = handed c.from_residual-in_err-check_sides.result c.in_err-check_sides.field-0.0 c.from_residual-in_err-check_sides.ensures.1
    (past (four (goal.at.returns-in_err-check_sides c).In_ok-check_lengths) _ (past (twenty-seven (goal.at.returns-in_err-check_sides c).In_ok-check_pairs) _ (stops _ _ _ c.in_err-check_sides.ensures)))

pub returns-in_err-check_sum : goal.returns-in_err-check_sum
unfolding entry_faults
returns-in_err-check_sum c = handed c.from_residual-in_err-check_sum.result c.in_err-check_sum.field-0.0 c.from_residual-in_err-check_sum.ensures.1
    (past (four (goal.at.returns-in_err-check_sum c).In_ok-check_lengths) _ (past (twenty-seven (goal.at.returns-in_err-check_sum c).In_ok-check_pairs) _ (past (five (goal.at.returns-in_err-check_sum c).In_ok-check_sides) _ (stops _ _ _ c.in_err-check_sum.ensures))))

pub returns-in_err-check_coordinates : goal.returns-in_err-check_coordinates
unfolding entry_faults
returns-in_err-check_coordinates c = handed c.from_residual-in_err-check_coordinates.result c.in_err-check_coordinates.field-0.0 c.from_residual-in_err-check_coordinates.ensures.1
    (past (four (goal.at.returns-in_err-check_coordinates c).In_ok-check_lengths) _ (past (twenty-seven (goal.at.returns-in_err-check_coordinates c).In_ok-check_pairs) _ (past (five (goal.at.returns-in_err-check_coordinates c).In_ok-check_sides) _ (past (six (goal.at.returns-in_err-check_coordinates c).In_ok-check_sum) _ (stops _ _ _ c.in_err-check_coordinates.ensures)))))

pub returns-in_err-check_names : goal.returns-in_err-check_names
unfolding entry_faults
returns-in_err-check_names c = handed c.from_residual-in_err-check_names.result c.in_err-check_names.field-0.0 c.from_residual-in_err-check_names.ensures.1
    (past (four (goal.at.returns-in_err-check_names c).In_ok-check_lengths) _ (past (twenty-seven (goal.at.returns-in_err-check_names c).In_ok-check_pairs) _ (past (five (goal.at.returns-in_err-check_names c).In_ok-check_sides) _ (past (six (goal.at.returns-in_err-check_names c).In_ok-check_sum) _ (past (seven (goal.at.returns-in_err-check_names c).In_ok-check_coordinates) _ (stops _ _ _ c.in_err-check_names.ensures))))))

pub returns : goal.returns
unfolding entry_faults
returns c = past (four (goal.at.returns c).In_ok-check_lengths) _ (past (twenty-seven (goal.at.returns c).In_ok-check_pairs) _ (past (five (goal.at.returns c).In_ok-check_sides) _ (past (six (goal.at.returns c).In_ok-check_sum) _ (past (seven (goal.at.returns c).In_ok-check_coordinates) _ (past (eight (goal.at.returns c).In_ok-check_names) _ (c.check_sharpness.ensures))))))

pub check_pairs-requires : goal.check_pairs-requires
check_pairs-requires c = few_corners _ _ _ (single_sound 4 _ 0 (four (goal.at.check_pairs-requires c).In_ok-check_lengths))

pub check_sum-requires : goal.check_sum-requires
check_sum-requires c = few_faces _ _ _ (single_sound 4 _ 0 (four (goal.at.check_sum-requires c).In_ok-check_lengths))
