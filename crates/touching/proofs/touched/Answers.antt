-- `touched` meets its contract: 29, the fault of 4 to 13 with 27 and 28, no room, or the marks.
use Rattle.std.proofs.lemmas.Result.{err_from_is_err_and}
use Rattle.paper.specs.Mesh.{of_lists}
use Rattle.paper.specs.Faults.{Accepted}
use Rattle.mesh.proofs.Verdicts.{passed}
use Rattle.touching.proofs.Laws.{sums, names_few, faces, touched_none, touched_refused, touched_no_room, touched_done}
use borrow.Author.Rules.{rules}
use Rattle.touching.proofs.touched.Goals as goal

pub returns-then-lists-vertex : goal.returns-then-lists-vertex
returns-then-lists-vertex c =
    touched_none (of_lists c.args.lists) c.args.vertex c.args.marks.now (search rules)

pub returns-in_err-check : goal.returns-in_err-check
returns-in_err-check c =
    let p = err_from_is_err_and c.from_residual.result c.from_residual.ensures.1 in
    rw (p.1, p.2)
    (touched_refused (of_lists c.args.lists) c.args.vertex c.args.marks.now (search rules)
    c.check.ensures c.in_err-check.was)

pub returns-then-marks-lists : goal.returns-then-marks-lists
returns-then-marks-lists c =
    touched_no_room (of_lists c.args.lists) c.args.vertex c.args.marks.now (search rules)
    (passed _ c.check.ensures _ c.in_ok-check.was) (search rules)

pub mark-requires : goal.mark-requires
mark-requires c =
    let M = of_lists c.args.lists in
    let a : Accepted M = passed _ c.check.ensures _ c.in_ok-check.was in
    record { faces = (faces M a, sums M a); named = (names_few M a, search rules) }

pub returns : goal.returns
returns c =
    touched_done (of_lists c.args.lists) c.args.vertex c.args.marks.now (search rules)
    (passed _ c.check.ensures _ c.in_ok-check.was) (search rules) c.mark.ensures
