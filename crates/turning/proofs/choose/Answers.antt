-- `choose` meets its contract: 4 to 9 stop it, or 34 and 35 decide.
use native.Mathlib.Omega.{arith}
use Rattle.std.proofs.lemmas.Result.{err_from_is_err_and}
use mathlib.Core.Path.{ap}
use Rattle.paper.specs.Faults.{stated}
use Rattle.paper.specs.Mesh.{corner_count, most_vertices, most_corners, of_lists}
use Rattle.checks.proofs.Laws.{rows_for, room}
use Rattle.turning.proofs.Laws.{lists_pass, nexted_of, lists_refused, lists_sound, lists_passed}
use Rattle.turning.proofs.choose.Goals as goal

pub check_lists-requires : goal.check_lists-requires
check_lists-requires c =
    room (of_lists c.args.lists) _ most_vertices (rows_for (corner_count (of_lists c.args.lists)) most_corners (λ h. h)) (λ h. h)

pub returns-in_err-check_lists : goal.returns-in_err-check_lists
returns-in_err-check_lists c =
    let p = err_from_is_err_and c.from_residual.result c.from_residual.ensures.1 in
    rw (p.1, p.2) (lists_refused (of_lists c.args.lists) c.check_lists.ensures.answers _
    c.args.states.now c.in_err-check_lists.was)

pub find_turns-requires : goal.find_turns-requires
find_turns-requires c =
    let d = c.in_ok-check_lists.was in
    let z = lists_pass (of_lists c.args.lists) (lists_sound (of_lists c.args.lists) c.check_lists.ensures.answers d) in record { lists = (z, nexted_of z (omega (arith, c.check_lists.auto.table)) (c.check_lists.ensures.faced (ap stated d))); room = (omega (arith, z.few_faces, c.requires.0), c.requires.1) }

pub returns : goal.returns
returns c =
    lists_passed (of_lists c.args.lists) c.check_lists.ensures.answers c.in_ok-check_lists.was c.find_turns.ensures
