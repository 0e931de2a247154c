-- Linking meets its contract: the shared check refuses or leaves the links in a table of its own, then 14, then the column is copied.
use Rattle.std.proofs.Common.{◌≡◌, length, arith}
use Rattle.std.proofs.lemmas.Result.{err_from_is_err_and}
use Rattle.paper.specs.Mesh.{corner_count, of_lists}
use Rattle.paper.specs.Faults.{sound, verdict}
use Rattle.mesh.proofs.Verdicts.{passed}
use Rattle.mesh.proofs.Accepted.{sound_of, few_corners}
use Rattle.checks.proofs.requests.Laws.{length_of}
use Rattle.linking.proofs.Laws.{link_refused, link_14, link_done}
use Rattle.linking.proofs.link_over.Goals as goal

pub returns-in_err-check_within : goal.returns-in_err-check_within
returns-in_err-check_within c =
    let M = of_lists c.args.lists in
    let p = err_from_is_err_and c.from_residual.result c.from_residual.ensures.1 in
    rw (p.1, p.2) (link_refused M c.args.links.now _ _ c.in_err-check_within.ensures.answers)

pub returns-in_err-check_length : goal.returns-in_err-check_length
returns-in_err-check_length c =
    let M = of_lists c.args.lists in
    let p = err_from_is_err_and c.from_residual-in_err-check_length.result c.from_residual-in_err-check_length.ensures.1 in
    let a : verdict M ≡ sound = passed {v = verdict M} c.check_within.result c.check_within.ensures.answers _ c.in_ok-check_within.was in
    rw (p.1, p.2) (link_14 M c.args.links.now a _ _ c.in_err-check_length.ensures)

pub copy-requires : goal.copy-requires
copy-requires c =
    let M = of_lists c.args.lists in
    let a : verdict M ≡ sound = passed {v = verdict M} c.check_within.result c.check_within.ensures.answers _ c.in_ok-check_within.was in
    let f = passed c.check_length.result c.check_length.ensures _ c.in_ok-check_length.was in
    let few = few_corners (length M.coordinates) (length M.sides) (corner_count M) (sound_of M a).four in
    let l = length_of (length c.args.links.now) (corner_count M) f in
    (omega (arith, l, few), omega (arith, l, c.requires few, c.check_within.auto.table))

pub returns : goal.returns
returns c =
    let M = of_lists c.args.lists in
    let a : verdict M ≡ sound = passed {v = verdict M} c.check_within.result c.check_within.ensures.answers _ c.in_ok-check_within.was in
    link_done M c.args.links.now a _ _ (passed c.check_length.result c.check_length.ensures _ c.in_ok-check_length.was) c.copy.auto.links
    (c.check_within.ensures.tabled a) c.copy.ensures
