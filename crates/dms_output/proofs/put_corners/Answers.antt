-- After as many turns the first corners were put.
use mathlib.Core.Path.{ap}
use Rattle.streams.proofs.text.Putting.{put_none, put_then, put_same}
use Rattle.dms_output.specs.Bytes.{half_bytes}
use Rattle.dms_output.proofs.Steps.{no_corners, next_corner}
use Rattle.dms_output.proofs.put_corners.Goals as goal

pub loop-vertex-init : goal.loop-vertex-init
loop-vertex-init c = put_same (no_corners _) (put_none _ _)

pub loop-vertex-preserved : goal.loop-vertex-preserved
loop-vertex-preserved c =
    let l = c.loop-vertex in
    put_same (next_corner c.args.corners.now l.vertex-index)
    (put_then l.auto.file l.invariant (put_same (ap half_bytes c.from.ensures) c.put_half-at.ensures))
