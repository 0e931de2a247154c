-- Decoding refuses and leaves the lists as they were, or leaves lists within the limits, whose lengths are told as they are.
use Rattle.std.proofs.lemmas.Result.{err_from_is_err_and}
use Rattle.print.proofs.mesh_input.Meshes.{mesh_refused, mesh_found}
use Rattle.print.proofs.mesh_input.decode_lists.Goals as goal

pub returns-in_err-lengths : goal.returns-in_err-lengths
returns-in_err-lengths c =
    let p = err_from_is_err_and c.from_residual.result c.from_residual.ensures.1 in
    rw (p.1, p.2) (mesh_refused c.args.bytes.now c.args.counted _ _ _ c.in_err-lengths.ensures)

pub returns : goal.returns
returns c =
    mesh_found c.args.bytes.now c.args.counted _ _ c.in_ok-lengths.lengths c.in_ok-lengths.ensures _ c.min.ensures c.min-2.ensures c.min-3.ensures c.min-4.ensures
