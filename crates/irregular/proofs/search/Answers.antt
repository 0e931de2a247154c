-- `search` meets its contract: a refusal of 4 to 13, or the lowest irregular face, else vertex, else none.
use mathlib.Core.Path.{◌∙◌, sym}
use Rattle.std.proofs.lemmas.Result.{err_from_is_err_and}
use Rattle.paper.specs.Mesh.{of_lists}
use Rattle.mesh.proofs.Accepted.{sound_of, few_faces}
use native.Mathlib.Omega.{arith}
use Rattle.irregular.proofs.Laws.{face_found_lem, few_enough, lowest_within, search_refused_lem, search_face, search_vertex}
use lib.ListN.{length}
use Rattle.paper.specs.Irregular.{irregular_face}
use Rattle.irregular.proofs.search.Goals as goal

pub returns-in_err-check : goal.returns-in_err-check
returns-in_err-check c =
    let p = err_from_is_err_and c.from_residual.result c.from_residual.ensures.1 in
    rw (p.1, p.2) (search_refused_lem (of_lists c.args.lists) _ c.check.ensures c.in_err-check.was)

pub returns-in-Some : goal.returns-in-Some
returns-in-Some c =
    let M = of_lists c.args.lists in
    search_face M (sym c.in_ok-check.ensures) c.in-Some.face (sym (face_found_lem _) ∙ sym c.in-Some.ensures)

pub lowest_vertex-vertex-requires : goal.lowest_vertex-vertex-requires
lowest_vertex-vertex-requires c =
    let M = of_lists c.args.lists in
    few_enough M (sym c.in_ok-check.ensures)

pub returns : goal.returns
returns c =
    let M = of_lists c.args.lists in
    search_vertex M (sym c.in_ok-check.ensures) (sym (c.lowest_face.ensures ∙ face_found_lem _) ∙ c.in_default.is) c.lowest_vertex-vertex.result c.lowest_vertex-vertex.ensures
    c.map.result c.map.ensures.cases

pub overflow_add-result : goal.overflow_add-result
overflow_add-result c =
    let M = of_lists c.args.lists in
    omega (arith, lowest_within (length c.args.lists.sides.now) (irregular_face c.args.lists.sides.now) c.in-Some.face (sym (face_found_lem _) ∙ sym c.in-Some.ensures), few_faces _ _ _ (sound_of M (sym c.in_ok-check.ensures)).four)
