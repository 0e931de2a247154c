-- The bytes held are the file: as many of those read as the length says. A header that is refused writes nothing; of one that passes the lists lie within
-- the file.
use mathlib.Core.Path.{sym}
use native.Mathlib.Omega.{arith}
use lib.Seq.{length-take-le}
use Rattle.std.proofs.lemmas.Result.{err_from_is_err_and}
use Rattle.paper.specs.Mesh.{mesh_of}
use Rattle.dms_lists.proofs.header.Headers.{header_within}
use Rattle.dms_lists.proofs.Reading.{held_bytes}
use Rattle.dms.proofs.Files.{refused_decode, header_decides, decode_held}
use Rattle.dms.proofs.decode.Goals as goal

pub slice_bounds-file-end : goal.slice_bounds-file-end
slice_bounds-file-end c = sym (length-take-le _ c.args.bytes.now (omega arith))

pub returns-in_err-check_header : goal.returns-in_err-check_header
returns-in_err-check_header c =
    let lent = mesh_of c.args.coordinates.now c.args.sides.now c.args.corners.now c.args.sharpness.now in
    let p = err_from_is_err_and c.from_residual.result c.from_residual.ensures.1 in
    rw (p.1, p.2) (decode_held _ _ _ lent _ lent (held_bytes c.args.bytes.now _ c.args.counted (omega arith) (omega arith))
    (refused_decode _ _ lent _ (header_decides _ _ lent _ _ c.in_err-check_header.ensures)))

pub decode_lists-requires : goal.decode_lists-requires
decode_lists-requires c = header_within _ _ (sym c.in_ok-check_header.ensures)

pub returns : goal.returns
returns c =
    decode_held _ _ _ _ _ _ (held_bytes c.args.bytes.now _ c.args.counted (omega arith) (omega arith))
    (c.decode_lists.ensures _ (sym c.in_ok-check_header.ensures))
