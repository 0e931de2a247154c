-- A header that passes gives lists that lie within the file.
use Rattle.mesh.proofs.Verdicts.{passed}
use Rattle.dms_lists.proofs.header.Headers.{header_within}
use Rattle.turn.proofs.turn_file.Goals as goal

pub turn_lists-requires : goal.turn_lists-requires
turn_lists-requires c = header_within c.args.file.now c.args.counted (passed _ c.check_header.ensures _ c.in-Ok.is)
